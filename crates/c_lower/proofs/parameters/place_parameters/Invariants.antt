use Rattle.c_lower.proofs.ParameterLemmas.{Placing}
use Rattle.c_lower.proofs.parameters.place_parameters.Given as goal

abbrev pub invariant-loop-index : goal.invariant-loop-index
invariant-loop-index l = Placing l.fn.bases.items l.bases.items l._index l.place
