use Rattle.std.proofs.Common.{refl}
use Rattle.c_frames.proofs.Stacks.{grown}
use Rattle.c_frames.proofs.frame.with_value.Goals as goal

pub returns : goal.returns
returns c = grown c.args.frame _ c.args.value c.args.operators c.args.stars c.requires.operators c.requires.stars refl c.in_ok-push.ensures.items c.new.ensures.items refl c.in_ok-so_far.ensures
