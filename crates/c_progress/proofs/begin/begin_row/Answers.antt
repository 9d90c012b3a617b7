use Rattle.std.proofs.Common.{[], ◌∷◌, refl}
use Rattle.c_grammar.specs.Class.{class_of}
use Rattle.c_grammar.specs.Machine.{opening}
use Rattle.c_grammar.specs.Values as machine
use Rattle.c_grammar.specs.Values.{nil}
use Rattle.c_frames.specs.Stack.{opens, open_of}
use Rattle.c_progress.specs.Progress.{begin_behind}
use Rattle.c_progress.proofs.Begins.{comes_as, chosen, passed, class_opening, row_stars}
use Rattle.c_progress.proofs.Rooms.{opened_room}
use Rattle.c_progress.proofs.begin.begin_row.Goals as goal

pub enter_within-requires-clause-room : goal.enter_within-requires-clause-room
enter_within-requires-clause-room c = opened_room c.args.part c.args.class c.in-Some.production c.in-Some.ensures

pub with_row-requires : goal.with_row-requires
with_row-requires c = row_stars c.args.frame c.args.stack.now.items c.requires.stands

pub returns-in_ok-progress-in-Some : goal.returns-in_ok-progress-in-Some
returns-in_ok-progress-in-Some c =
    comes_as c.in_ok-progress-in-Some.progress c.args.frame.production c.args.stack.now.items _ _ _
    (chosen (opening c.args.part (class_of c.args.token.now)) c.in-Some.production c.args.token.now (open_of c.args.frame ∷ opens c.args.stack.now.items []) (begin_behind c.args.frame (machine.Values nil) c.args.token.now (opens c.args.stack.now.items [])) (class_opening c.args.part c.args.class c.args.token.now _ c.requires.class c.in-Some.ensures))
    (c.in_ok-progress-in-Some.ensures c.args.frame.production c.args.stack.now.items)

pub returns-in_ok-passed-in-None : goal.returns-in_ok-passed-in-None
returns-in_ok-passed-in-None c =
    passed c.args.frame c.in_ok-passed-in-None.passed c.args.symbol (opening c.args.part (class_of c.args.token.now)) c.args.token.now c.args.stack.now.items c.args.stack.now.items (open_of c.args.frame ∷ opens c.args.stack.now.items [])
    (class_opening c.args.part c.args.class c.args.token.now _ c.requires.class c.in-None.ensures) c.requires.row c.requires.takes c.requires.next c.requires.stands c.in_ok-passed-in-None.ensures refl
