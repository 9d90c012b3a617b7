use Rattle.std.proofs.Common.{◌≡◌, ◌<◌, length}
use Rattle.c_plain.specs.Calls.{continued}
use Rattle.c_parts.specs.Parts.{machine_of, without_top}
use Rattle.c_parts.proofs.leaves.continue_on.Given as goal

abbrev pub invariant-loop-open : goal.invariant-loop-open
invariant-loop-open l = record { same : continued l.parts.opened (without_top (machine_of l.parts)) ≡ continued l.fn.parts.opened (machine_of l.fn.parts); some : 0 < length l.parts.values.mine }

abbrev pub decreases-loop-open : goal.decreases-loop-open
decreases-loop-open l = length l.parts.opened
