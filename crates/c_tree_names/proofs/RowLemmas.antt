-- Rows of trees as lists.
use Rattle.std.proofs.Common.{◌≡◌, List, map, refl, ap, ◌∙◌}
use Rattle.c_syntax.specs.Plain as plain
use Rattle.c_syntax.specs.Plain.{MoreExpr, MoreValue, MoreStmt, MorePart, exprs, values, stmts, parts}
use Rattle.c_syntax.specs.View.{form_of, expr_of, exprs_of, exprs_in, value_of, values_in, stmt_of, stmts_in, part_of, parts_in}
use Rattle.c_syntax.specs.declared.tree.Exprs.{Exprs, Exprs', out-Exprs, Row_of-Expr, end_of-Expr, more_of-Expr, items-the_row-Expr, the_lemmas}
use Rattle.c_syntax.specs.declared.tree.Value.{Value, Many'}
use Rattle.c_syntax.specs.declared.tree.Value.TheVariants as value
use Rattle.c_syntax.specs.declared.tree.Values.{Values, Row_of-Value, end_of-Value, more_of-Value, items-the_row-Value, items_hidden-the_row-Value-0}
use Rattle.c_syntax.specs.declared.tree.Stmts.{Stmts, Row_of-Stmt, end_of-Stmt, more_of-Stmt, items-the_row-Stmt, items_hidden-the_row-Stmt-0}
use Rattle.c_syntax.specs.declared.tree.Parts.{Parts, Row_of-Part, end_of-Part, more_of-Part, items-the_row-Part, items_hidden-the_row-Part-1}
use Rattle.c_syntax.specs.declared.tree.Part.{Part}
use Rattle.c_syntax.specs.declared.tree.Stmt.{Stmt, Block', Switch', Empty}
use Rattle.c_syntax.specs.declared.tree.Stmt.TheVariants as stmt
use Rattle.c_tree_names.specs.Rows.{values_of, stmts_of, parts_of}

exprs_row : (m : _) (row : Row_of-Expr m) → exprs_in row ≡ exprs (map expr_of (items-the_row-Expr m row))
exprs_row m end_of-Expr = refl
exprs_row m (more_of-Expr pe e rest) = ap (λ z. MoreExpr (form_of e pe) z) (exprs_row _ rest)

-- the arguments of a call
pub exprs_view : (es : Exprs) → exprs_of es ≡ exprs (map expr_of (out-Exprs es).items.items)
exprs_view (Exprs' shape row) = simp the_lemmas (exprs_row _ row)

values_row : (m : _) (row : Row_of-Value m) → values_in row ≡ values (map value_of (items-the_row-Value m row))
values_row m end_of-Value = refl
values_row m (more_of-Value v rest) = ap (λ z. MoreValue (value_of v) z) (values_row _ rest)

abbrev Braced : Value → Type 0
Braced (Many' shape row) = (xs : List Value) → items-the_row-Value _ row ≡ xs → plain.Many (values_in row) ≡ plain.Many (values (map value_of xs))
Braced _ = Unit {0}

braced : (v : Value) → Braced v
braced (Many' shape row) = λ xs e. ap plain.Many (values_row _ row ∙ ap (λ z. values (map value_of z)) e)
braced _ = tt

-- a braced list
pub braces_made : (vs : Values) → value_of (value.Many vs) ≡ plain.Many (values_of vs)
braces_made vs = braced (value.Many vs) vs.items.items (items_hidden-the_row-Value-0 vs.items)

stmts_row : (m : _) (row : Row_of-Stmt m) → stmts_in row ≡ stmts (map stmt_of (items-the_row-Stmt m row))
stmts_row m end_of-Stmt = refl
stmts_row m (more_of-Stmt t rest) = ap (λ z. MoreStmt (stmt_of t) z) (stmts_row _ rest)

parts_row : (m : _) (row : Row_of-Part m) → parts_in row ≡ parts (map part_of (items-the_row-Part m row))
parts_row m end_of-Part = refl
parts_row m (more_of-Part p rest) = ap (λ z. MorePart (part_of p) z) (parts_row _ rest)

abbrev Listed : Stmt → Type 0
Listed (Block' shape row) = (xs : List Stmt) → items-the_row-Stmt _ row ≡ xs → plain.Block (stmts_in row) ≡ plain.Block (stmts (map stmt_of xs))
Listed (Switch' e shape row) = (xs : List Part) → items-the_row-Part _ row ≡ xs → plain.Switch (expr_of e) (parts_in row) ≡ plain.Switch (expr_of e) (parts (map part_of xs))
Listed _ = Unit {0}

listed : (x : Stmt) → Listed x
listed (Block' shape row) = λ xs e. ap plain.Block (stmts_row _ row ∙ ap (λ z. stmts (map stmt_of z)) e)
listed (Switch' a shape row) = λ xs e. ap (plain.Switch (expr_of a)) (parts_row _ row ∙ ap (λ z. parts (map part_of z)) e)
listed Empty = tt
listed _ = tt

-- a block, and a `switch`
pub block_made : (all : Stmts) → stmt_of (stmt.Block all) ≡ plain.Block (stmts_of all)
block_made all = listed (stmt.Block all) all.items.items (items_hidden-the_row-Stmt-0 all.items)

pub switch_made : (e : _) (all : Parts) → stmt_of (stmt.Switch e all) ≡ plain.Switch (expr_of e) (parts_of all)
switch_made e all = listed (stmt.Switch e all) all.items.items (items_hidden-the_row-Part-1 all.items)
