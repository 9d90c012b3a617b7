use Rattle.c_lower_bases.proofs.BaseLemmas.{Summing}
use Rattle.c_lower_bases.proofs.bases.words_given.Given as goal

abbrev pub invariant-loop-index : goal.invariant-loop-index
invariant-loop-index l = Summing l.words l.index l.wanted l.given l.sizes
