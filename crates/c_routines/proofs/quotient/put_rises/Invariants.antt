use Rattle.std.proofs.Common.{◌≡◌, ◌-◌, ◌++◌}
use Rattle.c_routines.specs.Divide.{rises}
use Rattle.c_routines.proofs.quotient.put_rises.Given as goal

abbrev pub invariant-loop-k : goal.invariant-loop-k
invariant-loop-k l = l.items.items ++ rises l.base l.first (l.n - l.k) l.k ≡ l.initial.items.items ++ rises l.base l.first l.n 0
