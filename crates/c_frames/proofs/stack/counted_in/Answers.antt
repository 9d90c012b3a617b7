use Rattle.c_frames.proofs.Stacks.{last_counted, context_none}
use Rattle.c_frames.proofs.stack.counted_in.Goals as goal

pub returns-in-Some : goal.returns-in-Some
returns-in-Some c = last_counted c.counted_within.result c.args.stack.now c.in-Some.frame.now c.requires c.in-Some.ensures.value c.counted_within.ensures

pub returns-in-None : goal.returns-in-None
returns-in-None c = context_none c.args.stack.now c.in-None.ensures.value
