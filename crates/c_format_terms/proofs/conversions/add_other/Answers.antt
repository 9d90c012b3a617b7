use Rattle.std.proofs.Common.{◌≡◌, ◌++◌, ◌∷◌, ℕ, List, Option, true, false, sym, ap, subst, ◌∙◌}
use Rattle.std.specs.Prelude.{IfOk, option_map}
use Rattle.c_types.specs.Operands.{conversions_behind}
use Rattle.c_format_terms.specs.Conversions.{conversions_from}
use Rattle.c_format_terms.proofs.ConversionLemmas.{letter_first}
use Rattle.c_format_terms.proofs.conversions.add_other.Goals as goal

pub returns-then-is_conversion : goal.returns-then-is_conversion
returns-then-is_conversion c = λ format e.
    let old = c.args.letters.now.items in
    subst (λ (o : Option (List ℕ)). IfOk c.add_conversion.result (λ next. option_map (λ ls. c.add_conversion.new.letters.items ++ ls) (conversions_from next format) ≡ option_map (λ ls. old ++ ls) o))
    (sym (letter_first c.args.byte format true e (sym c.is_conversion.ensures ∙ c.if-is_conversion.true))) (c.add_conversion.ensures format)

pub returns-else-is_conversion : goal.returns-else-is_conversion
returns-else-is_conversion c = λ format e.
    let old = c.args.letters.now.items in
    sym (ap (λ (o : Option (List ℕ)). option_map (λ ls. old ++ ls) o) (letter_first c.args.byte format false e (sym c.is_conversion.ensures ∙ c.if-is_conversion.false)))
