use Rattle.std.proofs.Common.{refl}
use Rattle.c_prep.proofs.Giving.{follows_none}
use Rattle.c_prep.proofs.output.Output.new.Goals as goal

pub returns : goal.returns
returns c = follows_none _ refl c.new.ensures.items refl refl
