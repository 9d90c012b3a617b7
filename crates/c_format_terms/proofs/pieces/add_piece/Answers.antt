use Rattle.std.proofs.Common.{◌≡◌, ◌++◌, ◌∷◌, Bool, map, length, sym, subst}
use Rattle.std.specs.Prelude.{IfOk}
use Rattle.c_syntax.specs.View.{stmt_of}
use Rattle.c_helpers.specs.Functions.{pieces}
use Rattle.c_format_terms.proofs.pieces.add_piece.Goals as goal

pub returns-then-behind : goal.returns-then-behind
returns-then-behind c = λ format.
    let i = length c.args.letters.now.items in
    subst (λ (b : Bool). IfOk c.add_behind_percent.result (λ next. map stmt_of c.add_behind_percent.new.row.items ++ pieces next format (length c.add_behind_percent.new.letters.items) ≡ map stmt_of c.args.row.now.items ++ pieces b (c.args.byte ∷ format) i))
    (sym c.if-behind.true) (c.add_behind_percent.ensures format)

pub returns-else-behind : goal.returns-else-behind
returns-else-behind c = λ format.
    let i = length c.args.letters.now.items in
    subst (λ (b : Bool). IfOk c.add_text.result (λ next. map stmt_of c.add_text.new.row.items ++ pieces next format i ≡ map stmt_of c.args.row.now.items ++ pieces b (c.args.byte ∷ format) i))
    (sym c.if-behind.false) (c.add_text.ensures format i)
