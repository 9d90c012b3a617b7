use Rattle.std.proofs.Common.{sym, ◌∙◌}
use Rattle.c_declared.proofs.FigureLemmas.{text_taken}
use Rattle.c_declared.proofs.value_rules.takes_string.Goals as goal

pub returns-in-Text : goal.returns-in-Text
returns-in-Text c = λ t e h f. c.takes_text.ensures t h ∙ text_taken t e c.in-Text.count (sym c.in-Text.is ∙ f)
