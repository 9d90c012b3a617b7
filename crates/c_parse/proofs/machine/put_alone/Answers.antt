use Rattle.std.proofs.Common.{[]}
use Rattle.c_frames.specs.Stack.{opens}
use Rattle.c_parse.proofs.Parts.{part_stands, put_begins, comes_put}
use Rattle.c_parse.proofs.machine.put_alone.Goals as goal

pub begin-requires-clause-row : goal.begin-requires-clause-row
begin-requires-clause-row c = c.in_ok-grown.ensures.row

pub begin-requires-clause-stands : goal.begin-requires-clause-stands
begin-requires-clause-stands c = part_stands c.args.frame c.in_ok-grown.grown c.args.wanted c.args.part c.args.stack.now.items c.requires.stands c.requires.next c.requires.meets c.in_ok-grown.ensures

pub returns : goal.returns
returns c =
    comes_put c.in_ok-progress.progress c.args.frame.production c.in_ok-grown.grown.production c.args.stack.now.items c.begin.new.stack.items _ _
    (put_begins c.args.frame c.in_ok-grown.grown c.args.part c.args.wanted c.args.token.now (opens c.args.stack.now.items []) c.in_ok-grown.ensures)
    c.in_ok-grown.ensures.production
    c.in_ok-progress.ensures
