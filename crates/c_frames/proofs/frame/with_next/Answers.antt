use Rattle.std.proofs.Common.{refl}
use Rattle.c_frames.proofs.Stacks.{row_grown}
use Rattle.c_frames.proofs.frame.with_next.Goals as goal

pub returns : goal.returns
returns c = row_grown c.args.frame _ c.args.made refl refl refl c.in_ok-push_back.ensures.items c.in_ok-row_stars.ensures
