use Rattle.std.proofs.Common.{◌≡◌, ℕ, List, [], ◌∷◌, length, None, sym, ap, subst, ◌∙◌, add-zero}
use Rattle.std.specs.Prelude.{Option, IfOk}
use Rattle.c_syntax.specs.View.{expr_of}
use Rattle.c_eval.specs.State as run
use Rattle.c_eval.specs.LiteralsIn.{literals_in}
use Rattle.c_eval.specs.Text.{static_value}
use Rattle.c_static.specs.Forms.{Text, Null, Name, Constant, plain_form, static_form}
use Rattle.c_static.proofs.FormLemmas.{form_value, form_literals, value_by_form, literals_by_form, none_in_constant}
use Rattle.c_lowered.specs.Whole.{word_of}
use Rattle.c_counted.specs.Numbers.{IsNumber}
use Rattle.c_addressing.specs.Here.{first_or}
use Rattle.c_applied.proofs.LeadsLemmas.{nothing, keeps_none, kept, as_count, if_ok, on_ok, same_number}
use Rattle.c_lower_data.proofs.statics.static_word.Goals as goal

pub returns-in-Text-clause-word : goal.returns-in-Text-clause-word
returns-in-Text-clause-word c = λ w env at quiet.
    let l = c.args.out.now.literals in
    let e = expr_of c.args.e.now in
    let form : static_form e ≡ Text c.in-Text._text.now = sym c.static_form.ensures ∙ ap plain_form c.in-Text.is in
    let is : static_value env e ≡ run.Letter None env.literals_before c.in-Text._text.now 0 = value_by_form env e ∙ ap (form_value env e) form in
    let address = subst (λ (n : ℕ). IsNumber n (w.literal w.owner env.literals_before)) (sym c.first-address.ensures)
    (subst (λ (k : ℕ). IsNumber (first_or l.end l.next.now) (w.literal w.owner k)) (add-zero env.literals_before) (at.here.literals.address 0)) in
    subst (λ (v : run.Value). IsNumber c.first-address.result (word_of w v)) (sym is)
    (subst (λ (n : ℕ). IsNumber c.first-address.result n) (sym (add-zero (w.literal None env.literals_before))) (subst (λ (o : Option (List ℕ)). IsNumber c.first-address.result (w.literal o env.literals_before)) at.owner address))

pub returns-in-Text-clause-emits : goal.returns-in-Text-clause-emits
returns-in-Text-clause-emits c = λ w env at quiet.
    let e = expr_of c.args.e.now in
    let form : static_form e ≡ Text c.in-Text._text.now = sym c.static_form.ensures ∙ ap plain_form c.in-Text.is in
    let one : literals_in env.scope e ≡ c.in-Text._text.now ∷ [] = literals_by_form env.scope e ∙ ap (form_literals env.scope e) form in
    as_count (sym (ap (λ (ls : List (List ℕ)). length ls) one)) (c.pass.ensures.passed 1 (record { next = c.behind-left.ensures.next; end = c.behind-left.ensures.end }))

pub returns-in-Text-clause-keeps : goal.returns-in-Text-clause-keeps
returns-in-Text-clause-keeps c = c.pass.ensures.keeps

pub returns-in-Null-clause-word : goal.returns-in-Null-clause-word
returns-in-Null-clause-word c = λ w env at quiet.
    let e = expr_of c.args.e.now in
    let form : static_form e ≡ Null = sym c.static_form.ensures ∙ ap plain_form c.in-Null.is in
    subst (λ (v : run.Value). IsNumber 0 (word_of w v)) (sym (value_by_form env e ∙ ap (form_value env e) form)) (same_number 0)

pub returns-in-Null-clause-emits : goal.returns-in-Null-clause-emits
returns-in-Null-clause-emits c = λ w env at quiet.
    let e = expr_of c.args.e.now in
    let form : static_form e ≡ Null = sym c.static_form.ensures ∙ ap plain_form c.in-Null.is in
    as_count (sym (ap (λ (ls : List (List ℕ)). length ls) (literals_by_form env.scope e ∙ ap (form_literals env.scope e) form))) (nothing c.args.out.now)

pub returns-in-Null-clause-keeps : goal.returns-in-Null-clause-keeps
returns-in-Null-clause-keeps c = keeps_none c.args.out.now

pub returns-in-Name-clause-word : goal.returns-in-Name-clause-word
returns-in-Name-clause-word c = λ w env at quiet.
    let e = expr_of c.args.e.now in
    let form : static_form e ≡ Name c.in-Name.name.now = sym c.static_form.ensures ∙ ap plain_form c.in-Name.is in
    subst (λ (v : run.Value). IsNumber c.named_word.result (word_of w v)) (sym (value_by_form env e ∙ ap (form_value env e) form)) (c.named_word.ensures c.args.out.now w env at.here)

pub returns-in-Name-clause-emits : goal.returns-in-Name-clause-emits
returns-in-Name-clause-emits c = λ w env at quiet.
    let e = expr_of c.args.e.now in
    let form : static_form e ≡ Name c.in-Name.name.now = sym c.static_form.ensures ∙ ap plain_form c.in-Name.is in
    as_count (sym (ap (λ (ls : List (List ℕ)). length ls) (literals_by_form env.scope e ∙ ap (form_literals env.scope e) form))) (nothing c.args.out.now)

pub returns-in-Name-clause-keeps : goal.returns-in-Name-clause-keeps
returns-in-Name-clause-keeps c = keeps_none c.args.out.now

pub returns-in-Constant-clause-word : goal.returns-in-Constant-clause-word
returns-in-Constant-clause-word c = λ w env at quiet.
    let e = expr_of c.args.e.now in
    let form : static_form e ≡ Constant = sym c.static_form.ensures ∙ ap plain_form c.in-Constant.is in
    subst (λ (v : run.Value). IfOk c.constant_in.result (λ n. IsNumber n (word_of w v))) (sym (value_by_form env e ∙ ap (form_value env e) form))
    (if_ok c.constant_in.result (λ n same. subst (λ (k : ℕ). IsNumber n k) same (same_number n)) (c.constant_in.ensures.word env.scope at.here.holds))

pub returns-in-Constant-clause-emits : goal.returns-in-Constant-clause-emits
returns-in-Constant-clause-emits c = λ w env at quiet.
    let e = expr_of c.args.e.now in
    let form : static_form e ≡ Constant = sym c.static_form.ensures ∙ ap plain_form c.in-Constant.is in
    let none : literals_in env.scope e ≡ [] = none_in_constant (static_form e) (literals_in env.scope e) form quiet in
    on_ok c.constant_in.result (λ f. as_count (sym (ap (λ (ls : List (List ℕ)). length ls) none)) f) c.constant_in.ensures.still

pub returns-in-Constant-clause-keeps : goal.returns-in-Constant-clause-keeps
returns-in-Constant-clause-keeps c = on_ok c.constant_in.result (λ f. kept f) c.constant_in.ensures.still
