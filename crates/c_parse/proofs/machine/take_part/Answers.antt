use Rattle.std.proofs.Common.{◌≡◌, Some, None, Option, true, false, [], ◌∷◌, sym, ap, ◌∙◌}
use Rattle.c_grammar.specs.Class.{class_of}
use Rattle.c_grammar.specs.Machine.{announced}
use Rattle.c_held.specs.View.{made_of}
use Rattle.c_frames.specs.Stack.{opens}
use Rattle.c_progress.proofs.Begins.{comes_as}
use Rattle.c_parse.proofs.Parts.{none_placed, not_placed, placed_wraps, placed_puts, placed_refused, meets_there, class_announced}
use Rattle.c_progress.proofs.Rooms.{announced_has_room}
use Rattle.c_parse.proofs.machine.take_part.Goals as goal

pub next_place-requires : goal.next_place-requires
next_place-requires c = c.requires.stands.frame.room

pub wrap_within-requires-clause-room : goal.wrap_within-requires-clause-room
wrap_within-requires-clause-room c = announced_has_room c.args.part.facts.category c.in-Some-wanted.wanted c.args.class c.in-Some-announced.production c.in-Some-announced.ensures

pub put_part-requires-clause-meets : goal.put_part-requires-clause-meets
put_part-requires-clause-meets c = meets_there c.in-Some.symbol c.in-Some-wanted.wanted c.args.part c.in-Some-wanted.ensures c.requires.fit (cc (c.accepts.ensures, c.if-not-accepts.false))

pub returns-in_default : goal.returns-in_default
returns-in_default c = none_placed c.args.part.facts.category (made_of c.args.part) c.args.frame c.args.token.now (opens c.args.stack.now.items []) c.in_default.ensures

pub returns-in_default-wanted : goal.returns-in_default-wanted
returns-in_default-wanted c = not_placed c.in-Some.symbol c.args.part.facts.category (made_of c.args.part) c.args.frame c.args.token.now (opens c.args.stack.now.items []) c.in-Some.ensures c.in_default-wanted.ensures

pub returns-in_ok-progress-in-Some-announced : goal.returns-in_ok-progress-in-Some-announced
returns-in_ok-progress-in-Some-announced c =
    comes_as c.in_ok-progress-in-Some-announced.progress c.args.frame.production c.args.stack.now.items _ _ _
    (placed_wraps c.in-Some.symbol c.in-Some-wanted.wanted c.in-Some-announced.production c.args.part.facts.category (made_of c.args.part) c.args.frame c.args.token.now (opens c.args.stack.now.items []) c.in-Some.ensures c.in-Some-wanted.ensures
    (class_announced c.args.part.facts.category c.in-Some-wanted.wanted c.args.class c.args.token.now _ c.requires.class c.in-Some-announced.ensures))
    (c.in_ok-progress-in-Some-announced.ensures c.args.frame.production c.args.stack.now.items)

pub returns-then-not-accepts : goal.returns-then-not-accepts
returns-then-not-accepts c =
    placed_refused c.in-Some.symbol c.in-Some-wanted.wanted c.args.part.facts.category (made_of c.args.part) c.args.frame c.args.token.now (opens c.args.stack.now.items []) c.in-Some.ensures c.in-Some-wanted.ensures
    (class_announced c.args.part.facts.category c.in-Some-wanted.wanted c.args.class c.args.token.now _ c.requires.class c.in-None.ensures)
    (cc (c.accepts.ensures, c.if-not-accepts.true))

pub returns-in_ok-progress-in-None : goal.returns-in_ok-progress-in-None
returns-in_ok-progress-in-None c =
    comes_as c.in_ok-progress-in-None.progress c.args.frame.production c.args.stack.now.items _ _ _
    (placed_puts c.in-Some.symbol c.in-Some-wanted.wanted c.args.part.facts.category (made_of c.args.part) c.args.frame c.args.token.now (opens c.args.stack.now.items []) c.in-Some.ensures c.in-Some-wanted.ensures
    (class_announced c.args.part.facts.category c.in-Some-wanted.wanted c.args.class c.args.token.now _ c.requires.class c.in-None.ensures)
    (cc (c.accepts.ensures, c.if-not-accepts.false)))
    c.in_ok-progress-in-None.ensures
