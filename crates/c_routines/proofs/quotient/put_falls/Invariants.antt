use Rattle.std.proofs.Common.{◌≡◌, ◌++◌}
use Rattle.c_routines.specs.Divide.{falls}
use Rattle.c_routines.proofs.quotient.put_falls.Given as goal

abbrev pub invariant-loop-j : goal.invariant-loop-j
invariant-loop-j l = l.items.items ++ falls l.base l.first l.j ≡ l.initial.items.items ++ falls l.base l.first l.k
