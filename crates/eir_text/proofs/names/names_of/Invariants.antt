use Rattle.eir_text.proofs.NameLemmas.{LinesSoFar}
use Rattle.eir_text.proofs.names.names_of.Given as goal

abbrev pub invariant-loop-i : goal.invariant-loop-i
invariant-loop-i l = LinesSoFar l.lines l.i l.names.keys l.found
