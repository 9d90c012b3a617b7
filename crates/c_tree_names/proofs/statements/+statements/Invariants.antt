use Rattle.std.proofs.Common.{◌≡◌, ◌+◌, ◌*◌, ◌++◌, max, map, drop}
use Rattle.c_syntax.specs.Plain.{stmts, parts}
use Rattle.c_syntax.specs.View.{stmt_of, part_of}
use Rattle.c_syntax.proofs.tree.Stmt.TheLaws as stmt
use Rattle.c_syntax.proofs.tree.Stmts.TheLaws as row
use Rattle.c_syntax.proofs.tree.Part.TheLaws as part
use Rattle.c_syntax.proofs.tree.Parts.TheLaws as switch
use Rattle.c_helpers.specs.Names.{stmts_names, parts_names}
use Rattle.c_tree_names.specs.Added.{texts}
use Rattle.c_tree_names.specs.Rows.{stmts_of, parts_of}
use Rattle.c_tree_names.proofs.statements.+statements.Given as goal

-- the names that are there, and those of the statements that are left
abbrev pub invariant-add_statements-loop-statement : goal.invariant-add_statements-loop-statement
invariant-add_statements-loop-statement l = texts l.names.items ++ stmts_names (stmts (map stmt_of (drop l.statement-index l.all.items.items))) ≡ texts l.fn.names.items ++ stmts_names (stmts_of l.all)

abbrev pub invariant-add_parts-loop-part : goal.invariant-add_parts-loop-part
invariant-add_parts-loop-part l = texts l.names.items ++ parts_names (parts (map part_of (drop l.part-index l.all.items.items))) ≡ texts l.fn.names.items ++ parts_names (parts_of l.all)

abbrev pub decreases-add_statement : goal.decreases-add_statement
decreases-add_statement l = 5 * (stmt.the_size l.statement.now) + 0

abbrev pub decreases-add_statements : goal.decreases-add_statements
decreases-add_statements l = 5 * (row.the_size l.all.now) + 0

abbrev pub decreases-add_one : goal.decreases-add_one
decreases-add_one l = 5 * (stmt.the_size l.t.now) + 1

abbrev pub decreases-add_pair : goal.decreases-add_pair
decreases-add_pair l = 5 * (max (stmt.the_size l.t.now) (stmt.the_size l.u.now)) + 1

abbrev pub decreases-add_both : goal.decreases-add_both
decreases-add_both l = 5 * (max (stmt.the_size l.t.now) (stmt.the_size l.u.now)) + 2

abbrev pub decreases-add_do : goal.decreases-add_do
decreases-add_do l = 5 * (stmt.the_size l.t.now) + 1

abbrev pub decreases-add_turn : goal.decreases-add_turn
decreases-add_turn l = 5 * (stmt.the_size l.t.now) + 1

abbrev pub decreases-add_rest : goal.decreases-add_rest
decreases-add_rest l = 5 * (stmt.the_size l.t.now) + 2

abbrev pub decreases-add_for : goal.decreases-add_for
decreases-add_for l = 5 * (max (stmt.the_size l.first.now) (stmt.the_size l.t.now)) + 3

abbrev pub decreases-add_switch : goal.decreases-add_switch
decreases-add_switch l = 5 * (switch.the_size l.parts.now) + 1

abbrev pub decreases-add_parts : goal.decreases-add_parts
decreases-add_parts l = 5 * (switch.the_size l.all.now) + 0

abbrev pub decreases-add_part : goal.decreases-add_part
decreases-add_part l = 5 * (part.the_size l.part.now) + 0
