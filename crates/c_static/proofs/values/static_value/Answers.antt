use Rattle.std.proofs.Common.{◌≡◌, ℕ, List, [], None, refl, sym, ap, subst, ◌∙◌}
use Rattle.word24.specs.Word.{number_of}
use Rattle.c_syntax.specs.View.{expr_of}
use Rattle.c_types.specs.Expressions.{judged}
use Rattle.c_eval.specs.State as run
use Rattle.c_eval.specs.LiteralsIn.{literals_in}
use Rattle.c_eval.specs.Text.{static_value}
use Rattle.c_store.specs.declared.value.Value.TheVariants as value
use Rattle.c_emitted.specs.Emits.{Emits, tables_of}
use Rattle.c_emitted.proofs.EmitLemmas.{nothing}
use Rattle.c_static.specs.Forms.{Text, Null, Constant, plain_form, static_form}
use Rattle.c_static.proofs.FormLemmas.{form_value, form_literals, value_by_form, literals_by_form, none_in_constant, letter_worth, null_worth, word_worth}
use Rattle.c_static.proofs.values.static_value.Goals as goal

pub returns-in_ok-literal-in-Text-clause-worth : goal.returns-in_ok-literal-in-Text-clause-worth
returns-in_ok-literal-in-Text-clause-worth c = λ env at.
    let out = c.args.out.now in
    let e = expr_of c.args.e.now in
    let text = c.in-Text.text.now in
    let form : static_form e ≡ Text text = sym c.static_form.ensures ∙ ap plain_form c.in-Text.is in
    let is : static_value env e ≡ run.Letter None out.before text 0 =
    value_by_form env e ∙ (ap (form_value env e) form ∙ ap (λ n. run.Letter None n text 0) (sym at.before)) in
    let l = c.in_ok-literal-in-Text.literal in
    letter_worth (tables_of c.literal.new.self) out.before l out.owner text (static_value env e) (value.Letter (record { literal = l; offset = 0 })) is refl c.in_ok-literal-in-Text.ensures.literal at.owner

pub returns-in-Null-clause-worth : goal.returns-in-Null-clause-worth
returns-in-Null-clause-worth c = λ env at.
    let e = expr_of c.args.e.now in
    let form : static_form e ≡ Null = sym c.static_form.ensures ∙ ap plain_form c.in-Null.is in
    null_worth (tables_of c.args.out.now) (static_value env e) value.Null (value_by_form env e ∙ ap (form_value env e) form) refl

pub returns-in-Null-clause-emits : goal.returns-in-Null-clause-emits
returns-in-Null-clause-emits c = λ env at quiet.
    let e = expr_of c.args.e.now in
    let form : static_form e ≡ Null = sym c.static_form.ensures ∙ ap plain_form c.in-Null.is in
    let none : literals_in env.scope e ≡ [] = literals_by_form env.scope e ∙ ap (form_literals env.scope e) form in
    subst (λ (ls : List (List ℕ)). Emits c.args.out.now c.args.out.now [] ls) (sym none) (nothing c.args.out.now)

pub returns-in_ok-judged-in-Constant-clause-worth : goal.returns-in_ok-judged-in-Constant-clause-worth
returns-in_ok-judged-in-Constant-clause-worth c = λ env at.
    let e = expr_of c.args.e.now in
    let form : static_form e ≡ Constant = sym c.static_form.ensures ∙ ap plain_form c.in-Constant.is in
    let word = c.word_in.ensures c.judge.new.types (judged env.scope e) (c.in_ok-judged-in-Constant.ensures.judged env.scope at.holds.fits) in
    word_worth (tables_of c.args.out.now) (number_of c.word_in.result) (static_value env e) (value.Word c.word_in.result) (value_by_form env e ∙ (ap (form_value env e) form ∙ ap (λ n. run.Word n) (sym word))) refl

pub returns-in_ok-judged-in-Constant-clause-emits : goal.returns-in_ok-judged-in-Constant-clause-emits
returns-in_ok-judged-in-Constant-clause-emits c = λ env at quiet.
    let e = expr_of c.args.e.now in
    let form : static_form e ≡ Constant = sym c.static_form.ensures ∙ ap plain_form c.in-Constant.is in
    subst (λ (ls : List (List ℕ)). Emits c.args.out.now c.args.out.now [] ls) (sym (none_in_constant (static_form e) (literals_in env.scope e) form quiet)) (nothing c.args.out.now)
