use Rattle.c_grammar.specs.Class.{class_of}
use Rattle.c_grammar.specs.Machine.{opening}
use Rattle.c_grammar.specs.Values as machine
use Rattle.c_frames.specs.Stack.{opens, open_of}
use Rattle.std.proofs.Common.{[], ◌∷◌, sym}
use Rattle.c_progress.proofs.Begins.{comes_as, chosen, not_chosen, class_opening}
use Rattle.c_progress.proofs.Rooms.{opened_room}
use Rattle.c_progress.proofs.begin.begin_part.Goals as goal

pub enter_within-requires-clause-room : goal.enter_within-requires-clause-room
enter_within-requires-clause-room c = opened_room c.args.part c.args.class c.in-Some.production c.in-Some.ensures

pub returns-in_ok-progress-in-Some : goal.returns-in_ok-progress-in-Some
returns-in_ok-progress-in-Some c =
    λ p old.
    comes_as c.in_ok-progress-in-Some.progress p old _ _ _
    (chosen (opening c.args.part (class_of c.args.token.now)) c.in-Some.production c.args.token.now (open_of c.args.frame ∷ opens c.args.stack.now.items []) machine.Stuck (class_opening c.args.part c.args.class c.args.token.now _ c.requires.class c.in-Some.ensures))
    (c.in_ok-progress-in-Some.ensures p old)

pub returns-in-None : goal.returns-in-None
returns-in-None c =
    λ p old. sym (not_chosen (opening c.args.part (class_of c.args.token.now)) c.args.token.now (open_of c.args.frame ∷ opens c.args.stack.now.items []) machine.Stuck (class_opening c.args.part c.args.class c.args.token.now _ c.requires.class c.in-None.ensures))
