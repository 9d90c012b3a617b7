use Rattle.std.proofs.Common.{List, refl, sym, ◌∙◌, subst}
use Rattle.std.specs.Prelude.{Result, Ok, OnOk}
use Rattle.c_syntax.specs.declared.token.Raw.{Raw}
use Rattle.c_prep.specs.declared.fault.PrepFault.{PrepFault}
use Rattle.c_prep.specs.Lines.{Step, line_step}
use Rattle.c_prep.specs.Views.{state_of, ReadsState, acts_of, Adds}
use Rattle.c_prep.proofs.Giving.{adds_none}
use Rattle.c_prep.proofs.Obeying.{step_directive, step_text}
use Rattle.c_prep.proofs.Reading.{empty, slice_cut}
use Rattle.c_prep.proofs.lines.read_line.Goals as goal

pub returns-in_default-clause-state : goal.returns-in_default-clause-state
unfolding line_step
returns-in_default-clause-state c = λ most fits.
    let s = state_of c.args.context.now in
    subst (λ (z : List Raw). ReadsState {R = Unit {0}} (Ok tt) (line_step most s z) s) (sym (empty c.args.line.now c.in_default.len_below)) refl

pub returns-in_default-clause-acts : goal.returns-in_default-clause-acts
unfolding line_step
returns-in_default-clause-acts c = λ most fits.
    subst (λ (z : List Raw). Adds c.args.out.now c.args.out.now (acts_of (line_step most (state_of c.args.context.now) z))) (sym (empty c.args.line.now c.in_default.len_below)) (adds_none c.args.out.now)

pub returns-then-is_hash-clause-state : goal.returns-then-is_hash-clause-state
returns-then-is_hash-clause-state c = λ most fits.
    subst (λ (z : Result Step PrepFault). ReadsState c.read_directive.result z (state_of c.read_directive.new.context))
    (sym (step_directive most (state_of c.args.context.now) c.args.line.now _ c.first-item.result (slice_cut c.args.line.now c.first-item.result c.in-len1-up.len_at_least c.first-item.is) (sym c.is_hash.ensures ∙ c.if-is_hash.true)))
    c.read_directive.ensures.state

pub returns-then-is_hash-clause-acts : goal.returns-then-is_hash-clause-acts
returns-then-is_hash-clause-acts c = λ most fits.
    subst (λ (z : Result Step PrepFault). OnOk c.read_directive.result (Adds c.args.out.now c.read_directive.new.out (acts_of z)))
    (sym (step_directive most (state_of c.args.context.now) c.args.line.now _ c.first-item.result (slice_cut c.args.line.now c.first-item.result c.in-len1-up.len_at_least c.first-item.is) (sym c.is_hash.ensures ∙ c.if-is_hash.true)))
    c.read_directive.ensures.acts

pub returns-clause-state : goal.returns-clause-state
returns-clause-state c = λ most fits.
    subst (λ (z : Result Step PrepFault). ReadsState {R = Unit {0}} (Ok tt) z (state_of c.read_text.new.context))
    (sym (step_text most (state_of c.args.context.now) c.args.line.now _ c.first-item.result (slice_cut c.args.line.now c.first-item.result c.in-len1-up.len_at_least c.first-item.is) (sym c.is_hash.ensures ∙ c.if-is_hash.false)))
    c.in_ok-read_text.ensures.state

pub returns-clause-acts : goal.returns-clause-acts
returns-clause-acts c = λ most fits.
    subst (λ (z : Result Step PrepFault). Adds c.args.out.now c.read_text.new.out (acts_of z))
    (sym (step_text most (state_of c.args.context.now) c.args.line.now _ c.first-item.result (slice_cut c.args.line.now c.first-item.result c.in-len1-up.len_at_least c.first-item.is) (sym c.is_hash.ensures ∙ c.if-is_hash.false)))
    (c.in_ok-read_text.ensures.acts most fits)
