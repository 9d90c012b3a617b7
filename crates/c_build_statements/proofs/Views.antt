-- The statements of a block and the parts of a switch, by their elements and by their row.
use Rattle.std.proofs.Common.{◌≡◌, List, map, refl, ap, ◌∙◌}
use Rattle.c_syntax.specs.Plain as plain
use Rattle.c_syntax.specs.Plain.{MoreStmt, MorePart, stmts, parts}
use Rattle.c_syntax.specs.View.{expr_of, stmt_of, stmts_in, part_of, parts_in}
use Rattle.c_syntax.specs.declared.tree.Stmt.{Stmt, Empty, Block', Switch'}
use Rattle.c_syntax.specs.declared.tree.Stmts.{Stmts, Row_of-Stmt, end_of-Stmt, more_of-Stmt, items-the_row-Stmt, items_hidden-the_row-Stmt-0}
use Rattle.c_syntax.specs.declared.tree.Part.{Part}
use Rattle.c_syntax.specs.declared.tree.Parts.{Parts, Row_of-Part, end_of-Part, more_of-Part, items-the_row-Part, items_hidden-the_row-Part-1}
use Rattle.c_syntax.specs.declared.tree.Stmt.TheVariants as statement

stmts_row : (m : _) (row : Row_of-Stmt m) → stmts_in row ≡ stmts (map stmt_of (items-the_row-Stmt m row))
stmts_row m end_of-Stmt = refl
stmts_row m (more_of-Stmt s rest) = ap (λ z. MoreStmt (stmt_of s) z) (stmts_row _ rest)

parts_row : (m : _) (row : Row_of-Part m) → parts_in row ≡ parts (map part_of (items-the_row-Part m row))
parts_row m end_of-Part = refl
parts_row m (more_of-Part p rest) = ap (λ z. MorePart (part_of p) z) (parts_row _ rest)

-- the statements of a block and the parts of a switch are those of their rows
abbrev Listed : Stmt → Type 0
Listed (Block' shape row) = (xs : List Stmt) → items-the_row-Stmt _ row ≡ xs → plain.Block (stmts_in row) ≡ plain.Block (stmts (map stmt_of xs))
Listed (Switch' e shape row) = (xs : List Part) → items-the_row-Part _ row ≡ xs → plain.Switch (expr_of e) (parts_in row) ≡ plain.Switch (expr_of e) (parts (map part_of xs))
Listed _ = Unit {0}

listed : (x : Stmt) → Listed x
listed (Block' shape row) = λ xs e. ap plain.Block (stmts_row _ row ∙ ap (λ z. stmts (map stmt_of z)) e)
listed (Switch' a shape row) = λ xs e. ap (plain.Switch (expr_of a)) (parts_row _ row ∙ ap (λ z. parts (map part_of z)) e)
listed Empty = tt
listed _ = tt

pub block_made : (ss : Stmts) → stmt_of (statement.Block ss) ≡ plain.Block (stmts (map stmt_of ss.items.items))
block_made ss = listed (statement.Block ss) ss.items.items (items_hidden-the_row-Stmt-0 ss.items)

pub switch_made : (e : _) (ps : Parts) → stmt_of (statement.Switch e ps) ≡ plain.Switch (expr_of e) (parts (map part_of ps.items.items))
switch_made e ps = listed (statement.Switch e ps) ps.items.items (items_hidden-the_row-Part-1 ps.items)
