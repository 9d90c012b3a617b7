use Rattle.std.proofs.Common.{◌≡◌, ◌++◌, ◌∷◌, ℕ, List, Option, sym, ap, subst, ◌∙◌}
use Rattle.std.specs.Prelude.{IfOk, option_map}
use Rattle.c_format_terms.specs.Conversions.{conversions_from}
use Rattle.c_format_terms.specs.declared.conversions.State.{State}
use Rattle.c_format_terms.proofs.ConversionLemmas.{text_first}
use Rattle.c_format_terms.proofs.conversions.add_letter.Goals as goal

pub returns-in-Text : goal.returns-in-Text
returns-in-Text c = λ format.
    let old = c.args.letters.now.items in
    let all = λ (o : Option (List ℕ)). option_map (λ ls. old ++ ls) o in
    ap (λ (p : State). all (conversions_from p format)) c.behind_text.ensures
    ∙ (ap all (text_first c.args.byte format) ∙ ap (λ (p : State). all (conversions_from p (c.args.byte ∷ format))) (sym c.in-Text.is))

pub returns-in-Percent : goal.returns-in-Percent
returns-in-Percent c = λ format.
    let old = c.args.letters.now.items in
    subst (λ (p : State). IfOk c.add_behind_percent.result (λ next. option_map (λ ls. c.add_behind_percent.new.letters.items ++ ls) (conversions_from next format) ≡ option_map (λ ls. old ++ ls) (conversions_from p (c.args.byte ∷ format))))
    (sym c.in-Percent.is) (c.add_behind_percent.ensures format)

pub returns-in-Fault : goal.returns-in-Fault
returns-in-Fault c = λ format.
    let old = c.args.letters.now.items in
    ap (λ (p : State). option_map (λ ls. old ++ ls) (conversions_from p (c.args.byte ∷ format))) (sym c.in-Fault.is)
