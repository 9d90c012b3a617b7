use Rattle.std.proofs.Common.{refl, length, ◌-◌}
use Rattle.c_linked.proofs.SlotLemmas.{ends}
use Rattle.c_linked.proofs.slots.parameter_slots.Goals as goal

pub returns : goal.returns
returns c = ends c.args.parameters.now c.loop-step.step (length c.args.parameters.now - c.loop-step.step) c.loop-step.slots c.loop-step-test.false refl c.loop-step.invariant
