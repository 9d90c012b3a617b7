use Rattle.c_lower.proofs.ParameterLemmas.{Numbering}
use Rattle.c_lower.proofs.parameters.number_parameters.Given as goal

abbrev pub invariant-loop-step : goal.invariant-loop-step
invariant-loop-step l = Numbering l.parameters l.end l.step l.fn.slots l.slots
