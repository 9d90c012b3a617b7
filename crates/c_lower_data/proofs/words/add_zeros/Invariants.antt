use Rattle.std.proofs.Common.{◌-◌, replicate}
use Rattle.c_lower_data.proofs.LetterLemmas.{Wording}
use Rattle.c_lower_data.proofs.words.add_zeros.Given as goal

abbrev pub invariant-loop-index : goal.invariant-loop-index
invariant-loop-index l = Wording l.fn.words.items l.words.items (replicate l.count 0) (replicate (l.count - l._index) 0)
