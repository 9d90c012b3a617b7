use Rattle.std.proofs.Common.{◌≡◌, ◌++◌}
use Rattle.c_routines.specs.Numeral.{places}
use Rattle.c_routines.proofs.printing.put_places.Given as goal

abbrev pub invariant-loop-j : goal.invariant-loop-j
invariant-loop-j l = l.items.items ++ places l.radix l.base l.j ≡ l.initial.items.items ++ places l.radix l.base l.k
