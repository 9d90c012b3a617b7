use Rattle.std.proofs.Common.{◌≡◌, ◌++◌, List, map, length, true, false, sym, subst, ◌∙◌}
use Rattle.std.specs.Prelude.{IfOk}
use Rattle.c_syntax.specs.Plain.{CStmt}
use Rattle.c_syntax.specs.View.{stmt_of}
use Rattle.c_helpers.specs.Functions.{pieces}
use Rattle.c_format_terms.proofs.PieceLemmas.{percent_by}
use Rattle.c_format_terms.proofs.pieces.add_behind_percent.Goals as goal

pub returns-then-is_percent : goal.returns-then-is_percent
returns-then-is_percent c = λ format.
    let i = length c.args.letters.now.items in
    subst (λ (l : List CStmt). IfOk c.add_plain.result (λ next. map stmt_of c.add_plain.new.row.items ++ pieces next format i ≡ map stmt_of c.args.row.now.items ++ l))
    (percent_by c.args.byte format i true (sym c.is_percent.ensures ∙ c.if-is_percent.true)) (c.add_plain.ensures (λ next. pieces next format i))

pub returns-else-is_percent : goal.returns-else-is_percent
returns-else-is_percent c = λ format.
    let i = length c.args.letters.now.items in
    subst (λ (l : List CStmt). IfOk c.add_kept.result (λ next. map stmt_of c.add_kept.new.row.items ++ pieces next format (length c.add_kept.new.letters.items) ≡ map stmt_of c.args.row.now.items ++ l))
    (percent_by c.args.byte format i false (sym c.is_percent.ensures ∙ c.if-is_percent.false)) (c.add_kept.ensures format)
