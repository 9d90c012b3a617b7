use Rattle.c_lower_bases.proofs.BaseLemmas.{Basing}
use Rattle.c_lower_bases.proofs.bases.file_bases.Given as goal

abbrev pub invariant-loop-index : goal.invariant-loop-index
invariant-loop-index l = Basing l.bases.items l.fn.from l.ends l.index l.given l.sizes
