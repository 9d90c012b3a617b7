use Rattle.std.proofs.Common.{[]}
use Rattle.c_frames.specs.Stack.{opens}
use Rattle.c_parse.proofs.Parts.{maybe_begins, maybe_stands, maybe_production, comes_put}
use Rattle.c_progress.proofs.Begins.{row_stars}
use Rattle.c_parse.proofs.machine.put_maybe.Goals as goal

pub with_row-requires : goal.with_row-requires
with_row-requires c = row_stars c.in_ok-grown.grown c.args.stack.now.items (c.in_ok-grown.ensures.sound c.args.stack.now.items (c.without_row-cleared.ensures.sound c.args.stack.now.items c.requires.stands))

pub begin-requires-clause-row : goal.begin-requires-clause-row
begin-requires-clause-row c = c.in_ok-passed.ensures.row

pub begin-requires-clause-stands : goal.begin-requires-clause-stands
begin-requires-clause-stands c = maybe_stands c.args.frame c.without_row-cleared.result c.in_ok-grown.grown c.in_ok-passed.passed c.args.part c.args.wanted c.args.stack.now.items c.requires.stands c.requires.next c.without_row-cleared.ensures c.in_ok-grown.ensures c.in_ok-passed.ensures

pub returns : goal.returns
returns c =
    comes_put c.in_ok-progress.progress c.args.frame.production c.in_ok-passed.passed.production c.args.stack.now.items _ _ _
    (maybe_begins c.args.frame c.without_row-cleared.result c.in_ok-grown.grown c.in_ok-passed.passed c.args.part c.args.wanted c.args.token.now (opens c.args.stack.now.items []) c.without_row-cleared.ensures c.in_ok-grown.ensures c.in_ok-passed.ensures)
    (maybe_production c.args.frame c.without_row-cleared.result c.in_ok-grown.grown c.in_ok-passed.passed c.args.part c.without_row-cleared.ensures c.in_ok-grown.ensures c.in_ok-passed.ensures)
    c.in_ok-progress.ensures
