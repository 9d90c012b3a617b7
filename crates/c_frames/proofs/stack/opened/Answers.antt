use Rattle.std.proofs.Common.{refl}
use Rattle.c_frames.proofs.Stacks.{begun}
use Rattle.c_frames.proofs.stack.opened.Goals as goal

pub returns-clause-stands : goal.returns-clause-stands
returns-clause-stands c = begun _ c.args.production c.args.stack.now c.requires.room c.requires.sound refl c.new.ensures.items c.new-2.ensures.items refl c.in_ok-so_far.ensures
