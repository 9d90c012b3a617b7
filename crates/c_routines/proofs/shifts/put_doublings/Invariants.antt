use Rattle.std.proofs.Common.{◌≡◌, ◌++◌}
use Rattle.c_routines.specs.Left.{doublings}
use Rattle.c_routines.proofs.shifts.put_doublings.Given as goal

abbrev pub invariant-loop-j : goal.invariant-loop-j
invariant-loop-j l = l.items.items ++ doublings l.base l.j ≡ l.initial.items.items ++ doublings l.base l.k
