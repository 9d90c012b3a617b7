use Rattle.std.proofs.Common.{◌≡◌, ◌++◌, List, map, true, false, sym, ap, subst, ◌∙◌}
use Rattle.std.specs.Prelude.{IfOk}
use Rattle.c_syntax.specs.Plain.{CStmt}
use Rattle.c_syntax.specs.View.{stmt_of}
use Rattle.c_helpers.specs.Functions.{pieces}
use Rattle.c_format_terms.proofs.PieceLemmas.{text_by}
use Rattle.c_format_terms.proofs.pieces.add_text.Goals as goal

pub returns-then-is_percent : goal.returns-then-is_percent
returns-then-is_percent c = λ format i.
    ap (λ (l : List CStmt). map stmt_of c.args.row.now.items ++ l) (text_by c.args.byte format i true (sym c.is_percent.ensures ∙ c.if-is_percent.true))

pub returns-else-is_percent : goal.returns-else-is_percent
returns-else-is_percent c = λ format i.
    subst (λ (l : List CStmt). IfOk c.add_plain.result (λ next. map stmt_of c.add_plain.new.row.items ++ pieces next format i ≡ map stmt_of c.args.row.now.items ++ l))
    (text_by c.args.byte format i false (sym c.is_percent.ensures ∙ c.if-is_percent.false)) (c.add_plain.ensures (λ next. pieces next format i))
