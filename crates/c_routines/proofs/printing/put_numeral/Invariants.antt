use Rattle.std.proofs.Common.{◌≡◌, ◌-◌, ◌++◌}
use Rattle.c_routines.specs.Numeral.{highest, finds}
use Rattle.c_routines.proofs.printing.put_numeral.Given as goal

abbrev pub invariant-loop-k : goal.invariant-loop-k
invariant-loop-k l = l.items.items ++ finds l.radix l.base (highest l.radix - l.k) l.k ≡ l.initial.items.items ++ finds l.radix l.base (highest l.radix) 0
