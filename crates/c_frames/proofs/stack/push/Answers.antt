use Rattle.c_frames.proofs.Stacks.{pushed}
use Rattle.c_frames.proofs.stack.push.Goals as goal

pub returns : goal.returns
returns c = pushed c.args.stack.now.items c.push.new.self.items c.args.frame c.in_ok-push.ensures.items c.requires
