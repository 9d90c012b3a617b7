use Rattle.std.proofs.Common.{[], subst}
use Rattle.c_grammar.specs.Values as machine
use Rattle.c_held.specs.View.{made_of}
use Rattle.c_frames.specs.Stack.{StandsOn, opens}
use Rattle.c_progress.proofs.Begins.{comes_as}
use Rattle.c_parse.proofs.Parts.{not_wrapped, wrap_refused, wrap_begins, wrap_next, part_stands}
use Rattle.c_parse.proofs.machine.wrap.Goals as goal

pub returns-in_default : goal.returns-in_default
returns-in_default c = λ p old. not_wrapped c.args.production c.args.part.facts.category (made_of c.args.part) c.args.token.now (opens c.args.stack.now.items []) c.in_default.ensures

pub returns-then-not-accepts : goal.returns-then-not-accepts
returns-then-not-accepts c = λ p old. wrap_refused c.args.production c.in-Some.wanted c.args.part.facts.category (made_of c.args.part) c.args.token.now (opens c.args.stack.now.items []) c.in-Some.ensures (cc (c.accepts.ensures, c.if-not-accepts.true))

pub begin-requires-clause-row : goal.begin-requires-clause-row
begin-requires-clause-row c = c.in_ok-grown.ensures.row

pub begin-requires-clause-stands : goal.begin-requires-clause-stands
begin-requires-clause-stands c =
    part_stands c.in_ok-frame.frame c.in_ok-grown.grown c.in-Some.wanted c.args.part c.args.stack.now.items (subst (StandsOn c.in_ok-frame.frame) c.deref.ensures.value c.in_ok-frame.ensures.stands)
    (wrap_next c.args.production c.in_ok-frame.frame c.in-Some.wanted c.in-Some.ensures c.in_ok-frame.ensures.production c.in_ok-frame.ensures.done)
    (c.requires.fit c.in-Some.wanted (cc (c.accepts.ensures, c.if-not-accepts.false)))
    c.in_ok-grown.ensures

pub returns : goal.returns
returns c =
    λ p old.
    comes_as c.unfinished.result p old c.begin.new.stack.items _ _
    (wrap_begins c.args.production c.in-Some.wanted c.in_ok-frame.frame c.in_ok-grown.grown c.args.part c.args.part.facts.category c.args.token.now (opens c.args.stack.now.items []) c.in-Some.ensures (cc (c.accepts.ensures, c.if-not-accepts.false)) c.in_ok-frame.ensures.production c.in_ok-frame.ensures.done c.in_ok-grown.ensures)
    (c.unfinished.ensures c.in_ok-grown.grown.production p c.args.stack.now.items old _ _ c.in_ok-progress.ensures)
