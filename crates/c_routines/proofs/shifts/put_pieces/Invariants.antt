use Rattle.std.proofs.Common.{◌≡◌, ◌++◌}
use Rattle.c_routines.specs.Right.{pieces}
use Rattle.c_routines.proofs.shifts.put_pieces.Given as goal

abbrev pub invariant-loop-j : goal.invariant-loop-j
invariant-loop-j l = l.items.items ++ pieces l.base l.j ≡ l.initial.items.items ++ pieces l.base l.k
