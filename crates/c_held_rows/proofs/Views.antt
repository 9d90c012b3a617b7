-- The trees of a list, by its elements and by its row.
use Rattle.std.proofs.Common.{◌≡◌, List, map, refl, ap, ◌∙◌}
use Rattle.c_syntax.specs.Plain as plain
use Rattle.c_syntax.specs.Plain.{MoreExpr, MoreTy, exprs, tys}
use Rattle.c_syntax.specs.View.{form_of, expr_of, exprs_of, exprs_in, ty_of, tys_in}
use Rattle.c_syntax.specs.declared.tree.Exprs.{Exprs, Exprs', out-Exprs, roll-Exprs, out-roll-Exprs, Row_of-Expr, end_of-Expr, more_of-Expr, items-the_row-Expr, the_lemmas}
use Rattle.c_syntax.specs.declared.tree.Tys.{Tys, Row_of-Ty, end_of-Ty, more_of-Ty, items-the_row-Ty, items_hidden-the_row-Ty-0}
use Rattle.c_syntax.specs.declared.tree.Ty.{Ty, Void, Func'}
use Rattle.c_syntax.specs.declared.tree.Ty.TheVariants as type

exprs_row : (m : _) (row : Row_of-Expr m) → exprs_in row ≡ exprs (map expr_of (items-the_row-Expr m row))
exprs_row m end_of-Expr = refl
exprs_row m (more_of-Expr pe e rest) = ap (λ z. MoreExpr (form_of e pe) z) (exprs_row _ rest)

exprs_view : (es : Exprs) → exprs_of es ≡ exprs (map expr_of (out-Exprs es).items.items)
exprs_view (Exprs' shape row) = simp the_lemmas (exprs_row _ row)

pub exprs_made : (x : _) → exprs_of (roll-Exprs x) ≡ exprs (map expr_of x.items.items)
exprs_made x = exprs_view (roll-Exprs x) ∙ ap (λ y. exprs (map expr_of y.items.items)) (out-roll-Exprs x)

tys_row : (m : _) (row : Row_of-Ty m) → tys_in row ≡ tys (map ty_of (items-the_row-Ty m row))
tys_row m end_of-Ty = refl
tys_row m (more_of-Ty t rest) = ap (λ z. MoreTy (ty_of t) z) (tys_row _ rest)

-- the types of a function are those of its row
abbrev Listed : Ty → Type 0
Listed (Func' p t shape row) = (xs : List Ty) → items-the_row-Ty _ row ≡ xs → plain.Func (ty_of t) (tys_in row) ≡ plain.Func (ty_of t) (tys (map ty_of xs))
Listed _ = Unit {0}

listed : (x : Ty) → Listed x
listed (Func' p t shape row) = λ xs e. ap (plain.Func (ty_of t)) (tys_row _ row ∙ ap (λ z. tys (map ty_of z)) e)
listed Void = tt
listed _ = tt

pub function_made : (t : _) (ts : Tys) → ty_of (type.Func t ts) ≡ plain.Func (ty_of t.value) (tys (map ty_of ts.items.items))
function_made t ts = listed (type.Func t ts) ts.items.items (items_hidden-the_row-Ty-0 ts.items)
