use Rattle.std.proofs.Common.{◌+◌, ◌*◌, max, map, drop}
use Rattle.c_syntax.specs.Plain.{stmts, parts}
use Rattle.c_syntax.specs.View.{stmt_of, part_of}
use Rattle.c_syntax.proofs.tree.Stmt.TheLaws as stmt
use Rattle.c_syntax.proofs.tree.Stmts.TheLaws as row
use Rattle.c_syntax.proofs.tree.Part.TheLaws as part
use Rattle.c_syntax.proofs.tree.Parts.TheLaws as part_row
use Rattle.c_statements.specs.Trees.{stmts_of, parts_of}
use Rattle.c_statements.proofs.GoingLemmas.{Going}
use Rattle.c_statements.proofs.PartLemmas.{GoingParts}
use Rattle.c_statements.proofs.statements.+statements.Given as goal

abbrev pub invariant-state_all-loop-statement : goal.invariant-state_all-loop-statement
invariant-state_all-loop-statement l = Going l.fn.types l.types l.fn.declared l.declared l.around l.told (stmts (map stmt_of (drop l.statement-index l.all.items.items))) (stmts_of l.all)

abbrev pub invariant-state_parts-loop-part : goal.invariant-state_parts-loop-part
invariant-state_parts-loop-part l = GoingParts l.fn.types l.types l.fn.declared l.declared l.around l.labels l.told (parts (map part_of (drop l.part-index l.parts.items.items))) (parts_of l.parts)

abbrev pub decreases-state : goal.decreases-state
decreases-state l = 5 * (stmt.the_size l.statement.now) + 0

abbrev pub decreases-state_body : goal.decreases-state_body
decreases-state_body l = 5 * (stmt.the_size l.statement.now) + 1

abbrev pub decreases-state_all : goal.decreases-state_all
decreases-state_all l = 5 * (row.the_size l.all.now) + 0

abbrev pub decreases-state_block : goal.decreases-state_block
decreases-state_block l = 5 * (row.the_size l.all.now) + 1

abbrev pub decreases-state_one : goal.decreases-state_one
decreases-state_one l = 5 * (stmt.the_size l.body.now) + 2

abbrev pub decreases-state_choice : goal.decreases-state_choice
decreases-state_choice l = 5 * (max (stmt.the_size l.body.now) (stmt.the_size l.other.now)) + 2

abbrev pub decreases-state_rest : goal.decreases-state_rest
decreases-state_rest l = 5 * (stmt.the_size l.body.now) + 2

abbrev pub decreases-state_for_block : goal.decreases-state_for_block
decreases-state_for_block l = 5 * (max (row.the_size l.head.now) (stmt.the_size l.body.now)) + 3

abbrev pub decreases-state_for : goal.decreases-state_for
decreases-state_for l = 5 * (max (stmt.the_size l.head.now) (stmt.the_size l.body.now)) + 4

abbrev pub decreases-state_parts : goal.decreases-state_parts
decreases-state_parts l = 5 * (part_row.the_size l.parts.now) + 0

abbrev pub decreases-state_switch : goal.decreases-state_switch
decreases-state_switch l = 5 * (part_row.the_size l.parts.now) + 1

abbrev pub decreases-state_part : goal.decreases-state_part
decreases-state_part l = 5 * (part.the_size l.part.now) + 0
