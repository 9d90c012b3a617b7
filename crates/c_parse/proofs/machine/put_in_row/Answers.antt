use Rattle.std.proofs.Common.{[], ◌∙◌}
use Rattle.c_frames.specs.Stack.{opens}
use Rattle.c_progress.proofs.Begins.{comes_as, class_opening, row_stars}
use Rattle.c_parse.proofs.Parts.{row_enters, row_begins, wider_stands, comes_put}
use Rattle.c_progress.proofs.Rooms.{opened_room}
use Rattle.c_parse.proofs.machine.put_in_row.Goals as goal

pub enter_within-requires-clause-room : goal.enter_within-requires-clause-room
enter_within-requires-clause-room c = opened_room c.args.wanted c.args.class c.in-Some.production c.in-Some.ensures

pub enter_within-requires-clause-stands : goal.enter_within-requires-clause-stands
enter_within-requires-clause-stands c = c.in_ok-grown.ensures.sound c.args.stack.now.items c.requires.stands

pub with_row-requires : goal.with_row-requires
with_row-requires c = row_stars c.in_ok-grown.grown c.args.stack.now.items (c.in_ok-grown.ensures.sound c.args.stack.now.items c.requires.stands)

pub begin-requires-clause-row : goal.begin-requires-clause-row
begin-requires-clause-row c = c.in_ok-passed-in-None.ensures.row

pub begin-requires-clause-stands : goal.begin-requires-clause-stands
begin-requires-clause-stands c = wider_stands c.args.frame c.in_ok-grown.grown c.in_ok-passed-in-None.passed c.args.part c.args.wanted c.args.stack.now.items c.requires.stands c.requires.next c.in_ok-grown.ensures c.in_ok-passed-in-None.ensures

pub returns-in_ok-progress-in-Some : goal.returns-in_ok-progress-in-Some
returns-in_ok-progress-in-Some c =
    comes_as c.in_ok-progress-in-Some.progress c.args.frame.production c.args.stack.now.items _ _ _
    (row_enters c.args.frame c.in_ok-grown.grown c.args.part c.args.wanted c.in-Some.production c.args.token.now (opens c.args.stack.now.items []) c.requires.next c.in_ok-grown.ensures (class_opening c.args.wanted c.args.class c.args.token.now _ c.requires.class c.in-Some.ensures))
    (c.in_ok-progress-in-Some.ensures c.args.frame.production c.args.stack.now.items)

pub returns-in_ok-progress-in-None : goal.returns-in_ok-progress-in-None
returns-in_ok-progress-in-None c =
    comes_put c.in_ok-progress-in-None.progress c.args.frame.production c.in_ok-passed-in-None.passed.production c.args.stack.now.items _ _ _
    (row_begins c.args.frame c.in_ok-grown.grown c.in_ok-passed-in-None.passed c.args.part c.args.wanted c.args.token.now (opens c.args.stack.now.items []) c.in_ok-grown.ensures c.in_ok-passed-in-None.ensures (class_opening c.args.wanted c.args.class c.args.token.now _ c.requires.class c.in-None.ensures))
    (c.in_ok-passed-in-None.ensures.production ∙ c.in_ok-grown.ensures.production)
    c.in_ok-progress-in-None.ensures
