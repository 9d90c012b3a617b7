use Rattle.c_frames.proofs.Stacks.{counted_over}
use Rattle.c_frames.proofs.stack.counted_within.Goals as goal

pub returns : goal.returns
returns c = λ s h. counted_over c.args.frame.now c.in_ok-at.at c.in_ok-declarator.declarator s c.in_ok-at.ensures c.in_ok-declarator.ensures h
