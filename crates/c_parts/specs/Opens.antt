-- What is open, as the rule has it.
use Rattle.c_plain.specs.Machine as machine
use Rattle.c_parts.specs.declared.opened.Open.{Open}
use Rattle.c_parts.specs.declared.opened.Open.TheVariants.{Block, Loop, Switch, Call}

abbrev pub open_of : Open → machine.Open
open_of (Block b) = machine.Block b.first b.slots
open_of (Loop t) = machine.Loop t.again t.past
open_of (Switch past) = machine.Switch past
open_of (Call c) = machine.Call c.back c.values c.slots c.result c.first c.charge
