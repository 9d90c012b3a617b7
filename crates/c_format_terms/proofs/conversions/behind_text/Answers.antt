use Rattle.std.proofs.Common.{true, false, sym, ◌∙◌}
use Rattle.c_format_terms.proofs.ConversionLemmas.{text_by}
use Rattle.c_format_terms.proofs.conversions.behind_text.Goals as goal

pub returns-then-is_percent : goal.returns-then-is_percent
returns-then-is_percent c = text_by c.args.byte true (sym c.is_percent.ensures ∙ c.if-is_percent.true)

pub returns-else-is_percent : goal.returns-else-is_percent
returns-else-is_percent c = text_by c.args.byte false (sym c.is_percent.ensures ∙ c.if-is_percent.false)
