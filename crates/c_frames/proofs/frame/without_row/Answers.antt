use Rattle.std.proofs.Common.{refl}
use Rattle.c_frames.proofs.Stacks.{cleared}
use Rattle.c_frames.proofs.frame.without_row.Goals as goal

pub returns : goal.returns
returns c = cleared c.args.frame _ refl refl refl c.new.ensures.items refl
