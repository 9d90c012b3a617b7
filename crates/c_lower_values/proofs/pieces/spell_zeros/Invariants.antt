use Rattle.std.proofs.Common.{◌-◌, replicate}
use Rattle.c_lower_values.proofs.SpellLemmas.{Spelling}
use Rattle.c_lower_values.proofs.pieces.spell_zeros.Given as goal

abbrev pub invariant-loop-index : goal.invariant-loop-index
invariant-loop-index l = Spelling l.fn.out l.out l.at l.place (replicate l.count 0) (replicate (l.count - l._index) 0)
