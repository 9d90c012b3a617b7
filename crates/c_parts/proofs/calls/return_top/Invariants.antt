use Rattle.std.proofs.Common.{◌≡◌, ◌<◌, length}
use Rattle.c_store.specs.Shown.{value_of}
use Rattle.c_plain.specs.Calls.{returned}
use Rattle.c_parts.specs.Parts.{machine_of}
use Rattle.c_parts.proofs.calls.return_top.Given as goal

abbrev pub invariant-loop-open : goal.invariant-loop-open
invariant-loop-open l = record { same : returned l.parts.opened (value_of l.v) (machine_of l.parts) ≡ returned l.initial.parts.opened (value_of l.v) (machine_of l.initial.parts); some : 0 < length l.parts.values.mine }

abbrev pub decreases-loop-open : goal.decreases-loop-open
decreases-loop-open l = length l.parts.opened
