-- The trees of a list, by its elements and by its row.
use Rattle.std.proofs.Common.{◌≡◌, List, map, refl, ap, ◌∙◌}
use Rattle.c_syntax.specs.Plain as plain
use Rattle.c_syntax.specs.Plain.{MoreExpr, MoreTy, MoreStmt, exprs, tys, stmts}
use Rattle.c_syntax.specs.View.{form_of, expr_of, exprs_of, exprs_in, ty_of, tys_in, stmt_of, stmts_in}
use Rattle.c_syntax.specs.declared.tree.Exprs.{Exprs, Exprs', out-Exprs, roll-Exprs, out-roll-Exprs, Row_of-Expr, end_of-Expr, more_of-Expr, items-the_row-Expr, the_lemmas}
use Rattle.c_syntax.specs.declared.tree.Tys.{Tys, Row_of-Ty, end_of-Ty, more_of-Ty, items-the_row-Ty, items_hidden-the_row-Ty-0}
use Rattle.c_syntax.specs.declared.tree.Ty.{Ty, Void, Func'}
use Rattle.c_syntax.specs.declared.tree.Ty.TheVariants as type
use Rattle.c_syntax.specs.declared.tree.Stmt.{Stmt, Empty, Block'}
use Rattle.c_syntax.specs.declared.tree.Stmts.{Stmts, Row_of-Stmt, end_of-Stmt, more_of-Stmt, items-the_row-Stmt, items_hidden-the_row-Stmt-0}
use Rattle.c_syntax.specs.declared.tree.Stmt.TheVariants as statement

-- ---- arguments

exprs_row : (m : _) (row : Row_of-Expr m) → exprs_in row ≡ exprs (map expr_of (items-the_row-Expr m row))
exprs_row m end_of-Expr = refl
exprs_row m (more_of-Expr pe e rest) = ap (λ z. MoreExpr (form_of e pe) z) (exprs_row _ rest)

exprs_view : (es : Exprs) → exprs_of es ≡ exprs (map expr_of (out-Exprs es).items.items)
exprs_view (Exprs' shape row) = simp the_lemmas (exprs_row _ row)

pub exprs_made : (x : _) → exprs_of (roll-Exprs x) ≡ exprs (map expr_of x.items.items)
exprs_made x = exprs_view (roll-Exprs x) ∙ ap (λ y. exprs (map expr_of y.items.items)) (out-roll-Exprs x)

-- ---- types of parameters

tys_row : (m : _) (row : Row_of-Ty m) → tys_in row ≡ tys (map ty_of (items-the_row-Ty m row))
tys_row m end_of-Ty = refl
tys_row m (more_of-Ty t rest) = ap (λ z. MoreTy (ty_of t) z) (tys_row _ rest)

abbrev TypesAre : Ty → Type 0
TypesAre (Func' p t shape row) = (xs : List Ty) → items-the_row-Ty _ row ≡ xs → plain.Func (ty_of t) (tys_in row) ≡ plain.Func (ty_of t) (tys (map ty_of xs))
TypesAre _ = Unit {0}

types_are : (x : Ty) → TypesAre x
types_are (Func' p t shape row) = λ xs e. ap (plain.Func (ty_of t)) (tys_row _ row ∙ ap (λ z. tys (map ty_of z)) e)
types_are Void = tt
types_are _ = tt

pub function_made : (t : _) (ts : Tys) → ty_of (type.Func t ts) ≡ plain.Func (ty_of t.value) (tys (map ty_of ts.items.items))
function_made t ts = types_are (type.Func t ts) ts.items.items (items_hidden-the_row-Ty-0 ts.items)

-- ---- statements of a block

stmts_row : (m : _) (row : Row_of-Stmt m) → stmts_in row ≡ stmts (map stmt_of (items-the_row-Stmt m row))
stmts_row m end_of-Stmt = refl
stmts_row m (more_of-Stmt s rest) = ap (λ z. MoreStmt (stmt_of s) z) (stmts_row _ rest)

abbrev StatementsAre : Stmt → Type 0
StatementsAre (Block' shape row) = (xs : List Stmt) → items-the_row-Stmt _ row ≡ xs → plain.Block (stmts_in row) ≡ plain.Block (stmts (map stmt_of xs))
StatementsAre _ = Unit {0}

statements_are : (x : Stmt) → StatementsAre x
statements_are (Block' shape row) = λ xs e. ap plain.Block (stmts_row _ row ∙ ap (λ z. stmts (map stmt_of z)) e)
statements_are Empty = tt
statements_are _ = tt

pub block_made : (ss : Stmts) → stmt_of (statement.Block ss) ≡ plain.Block (stmts (map stmt_of ss.items.items))
block_made ss = statements_are (statement.Block ss) ss.items.items (items_hidden-the_row-Stmt-0 ss.items)
