use Rattle.std.proofs.Common.{◌++◌, ℕ, List, Option, sym, ap, ◌∙◌}
use Rattle.std.specs.Prelude.{option_map}
use Rattle.c_format_terms.proofs.ConversionLemmas.{percent_again}
use Rattle.c_format_terms.proofs.conversions.add_behind_percent.Goals as goal

pub returns-then-is_percent : goal.returns-then-is_percent
returns-then-is_percent c = λ format.
    let old = c.args.letters.now.items in
    sym (ap (λ (o : Option (List ℕ)). option_map (λ ls. old ++ ls) o) (percent_again c.args.byte format (sym c.is_percent.ensures ∙ c.if-is_percent.true)))

pub returns-else-is_percent : goal.returns-else-is_percent
returns-else-is_percent c = λ format. c.add_other.ensures format (sym c.is_percent.ensures ∙ c.if-is_percent.false)
