use Rattle.std.proofs.Common.{List, refl, sym, ◌∙◌, subst, arith}
use Rattle.c_prep.specs.declared.expand.Frame.{Frame}
use Rattle.c_prep.specs.Frames.{Taken}
use Rattle.c_prep.specs.Views.{size_of}
use Rattle.c_prep.proofs.Expanding.{run_first, run_next, run_left, run_end}
use Rattle.c_prep.proofs.Reading.{none_left}
use Rattle.c_prep.proofs.expand.expand.Goals as goal

pub loop-frame-init : goal.loop-frame-init
loop-frame-init c = run_first _ _ _ _ _ _ _ _ _ _ refl (omega arith) c.new-frames.ensures.items c.in_ok-take.ensures

pub loop-frame-preserved-in_default-advance : goal.loop-frame-preserved-in_default-advance
loop-frame-preserved-in_default-advance c =
    run_left _ _ _ _ c.loop-frame.table c.keep.new.self c.in-Some.frame c.pop_front.new.self.items c.loop-frame.frames.items c.args.out.now c.loop-frame.out
    c.in-Some.ensures.items (λ over. c.in_default-advance.ensures (c.is_over.ensures ∙ over)) c.in_ok-keep.ensures.macros c.in_ok-keep.ensures.size c.loop-frame.invariant

pub loop-frame-smaller : goal.loop-frame-smaller
loop-frame-smaller c =
    let n = run_next _ _ _ _ c.in-Some-advance.next.now c.loop-frame.table c.take-in-Some.new.table c.in-Some.frame c.in-Some-advance.behind c.pop_front.new.self.items c.loop-frame.frames.items c.take-in-Some.new.frames.items
    c.args.out.now c.loop-frame.out c.take-in-Some.new.out c.in-Some.ensures.items (sym c.is_over.ensures ∙ c.in-Some-advance.ensures.0) c.in-Some-advance.ensures.1 c.in-Some-advance.ensures.2 c.in-Some-advance.ensures.3
    (subst (λ (z : List Frame). Taken c.in-Some-advance.next.now.kind c.args.raw.now.pos c.loop-frame.table c.take-in-Some.new.table z c.take-in-Some.new.frames.items c.loop-frame.out c.take-in-Some.new.out) c.in_ok-push_front.ensures.items c.in_ok-take-2.ensures)
    c.loop-frame.invariant in
    omega (arith, n.1 (size_of c.args.table.now) (omega arith), n.2)

pub loop-frame-preserved : goal.loop-frame-preserved
loop-frame-preserved c =
    (run_next _ _ _ _ c.in-Some-advance.next.now c.loop-frame.table c.take-in-Some.new.table c.in-Some.frame c.in-Some-advance.behind c.pop_front.new.self.items c.loop-frame.frames.items c.take-in-Some.new.frames.items
    c.args.out.now c.loop-frame.out c.take-in-Some.new.out c.in-Some.ensures.items (sym c.is_over.ensures ∙ c.in-Some-advance.ensures.0) c.in-Some-advance.ensures.1 c.in-Some-advance.ensures.2 c.in-Some-advance.ensures.3
    (subst (λ (z : List Frame). Taken c.in-Some-advance.next.now.kind c.args.raw.now.pos c.loop-frame.table c.take-in-Some.new.table z c.take-in-Some.new.frames.items c.loop-frame.out c.take-in-Some.new.out) c.in_ok-push_front.ensures.items c.in_ok-take-2.ensures)
    c.loop-frame.invariant).0

pub returns-clause-acts : goal.returns-clause-acts
returns-clause-acts c =
    (run_end _ _ _ _ c.loop-frame.table c.loop-frame.frames.items c.args.out.now c.loop-frame.out (none_left c.loop-frame.frames.items c.pop_front.new.self.items c.in_default.ensures.items c.in_default.ensures.rest) c.loop-frame.invariant).2
