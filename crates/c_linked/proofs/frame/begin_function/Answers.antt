use Rattle.c_linked.proofs.FrameLemmas.{begins}
use Rattle.c_linked.proofs.frame.begin_function.Goals as goal

pub returns : goal.returns
returns c = begins c.args.out.now c.name_number.new.self c.args.name.now c.in_ok-function.function c.in_ok-owner.owner c.in_ok-function.ensures.emits c.in_ok-function.ensures.named c.in_ok-owner.ensures
