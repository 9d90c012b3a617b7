use Rattle.std.proofs.Common.{refl}
use Rattle.c_types.specs.Units.{body_scope, around_body}
use Rattle.c_signatures.proofs.BlockLemmas.{body_then, body_may_end}
use Rattle.c_check.proofs.functions.judge_inner.Goals as goal

pub judge_outer-requires-clause-holds : goal.judge_outer-requires-clause-holds
judge_outer-requires-clause-holds c =
    let h = c.requires in
    (body_scope h.0 c.args.name.now h.1, c.in_ok-mark.ensures.holds h.0 h.1 h.2 h.3)

pub judge_outer-requires-clause-result : goal.judge_outer-requires-clause-result
judge_outer-requires-clause-result c =
    let h = c.requires in
    (h.1.result, h.3.result)

pub leave_body-requires : goal.leave_body-requires
leave_body-requires c =
    let d0 = c.args.declared.now in
    let d2 = c.judge_outer.new.declared in
    body_may_end d0 d2 c.in_ok-mark.mark (body_then d0 c.enter_body.new.declared d2 c.in_ok-mark.ensures.inside c.in_ok-refusal.ensures.around) c.in_ok-mark.ensures.mark

pub returns-clause-judged : goal.returns-clause-judged
returns-clause-judged c = λ s g h is.
    c.in_ok-refusal.ensures.judged (body_scope s c.args.name.now g) (around_body g) (c.in_ok-mark.ensures.holds s g h is) (record { result = is.result; continues = refl; breaks = refl })

pub returns-clause-same : goal.returns-clause-same
returns-clause-same c =
    let d0 = c.args.declared.now in
    c.in_ok-leave_body.ensures d0 (body_then d0 c.enter_body.new.declared c.judge_outer.new.declared c.in_ok-mark.ensures.inside c.in_ok-refusal.ensures.around) c.in_ok-mark.ensures.mark
