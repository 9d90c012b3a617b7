use Rattle.std.proofs.Common.{◌≡◌, ◌++◌, List, map, true, false, sym, subst, ◌∙◌}
use Rattle.std.specs.Prelude.{OnOk}
use Rattle.c_syntax.specs.Plain.{CStmt}
use Rattle.c_syntax.specs.View.{expr_of, stmt_of}
use Rattle.c_format_terms.proofs.PieceLemmas.{written_by}
use Rattle.c_format_terms.proofs.effects.add_written.Goals as goal

pub returns-then-is_character : goal.returns-then-is_character
returns-then-is_character c =
    subst (λ (w : List CStmt). OnOk c.add_character.result (map stmt_of c.add_character.new.row.items ≡ map stmt_of c.args.row.now.items ++ w))
    (written_by c.args.letter (expr_of c.args.e) true (sym c.is_character.ensures ∙ c.if-is_character.true)) c.add_character.ensures

pub returns-else-is_character : goal.returns-else-is_character
returns-else-is_character c =
    subst (λ (w : List CStmt). OnOk c.add_printed.result (map stmt_of c.add_printed.new.row.items ≡ map stmt_of c.args.row.now.items ++ w))
    (written_by c.args.letter (expr_of c.args.e) false (sym c.is_character.ensures ∙ c.if-is_character.false)) c.add_printed.ensures
