use Rattle.std.proofs.Common.{◌-◌, length}
use Rattle.c_linked.proofs.SlotLemmas.{SoFar}
use Rattle.c_linked.proofs.slots.parameter_slots.Given as goal

abbrev pub invariant-loop-step : goal.invariant-loop-step
invariant-loop-step l = SoFar l.parameters (length l.parameters - l.step) l.slots
