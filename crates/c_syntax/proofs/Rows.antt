-- A row of trees is the list of a `Vec`'s items, seen as plain trees.
use Rattle.std.proofs.Common.{◌≡◌, map, refl, ap, ◌∙◌}
use Rattle.c_syntax.specs.Plain.{MoreExpr, exprs}
use Rattle.c_syntax.specs.View.{form_of, expr_of, exprs_of, exprs_in}
use Rattle.c_syntax.specs.declared.tree.Exprs.{Exprs, Exprs', out-Exprs, roll-Exprs, out-roll-Exprs, Row_of-Expr, end_of-Expr, more_of-Expr, items-the_row-Expr, the_lemmas}

exprs_row : (m : _) (row : Row_of-Expr m) → exprs_in row ≡ exprs (map expr_of (items-the_row-Expr m row))
exprs_row m end_of-Expr = refl
exprs_row m (more_of-Expr pe e rest) = ap (λ z. MoreExpr (form_of e pe) z) (exprs_row _ rest)

pub exprs_view : (es : Exprs) → exprs_of es ≡ exprs (map expr_of (out-Exprs es).items.items)
exprs_view (Exprs' shape row) = simp the_lemmas (exprs_row _ row)

-- of a list that is made
pub exprs_made : (x : _) → exprs_of (roll-Exprs x) ≡ exprs (map expr_of x.items.items)
exprs_made x = exprs_view (roll-Exprs x) ∙ ap (λ y. exprs (map expr_of y.items.items)) (out-roll-Exprs x)
