use Rattle.std.proofs.Common.{◌+◌, ◌*◌, max, drop}
use Rattle.c_syntax.proofs.tree.Stmt.TheLaws as stmt
use Rattle.c_syntax.proofs.tree.Stmts.TheLaws as row
use Rattle.c_syntax.proofs.tree.Part.TheLaws as part
use Rattle.c_syntax.proofs.tree.Parts.TheLaws as part_row
use Rattle.c_fewer_functions.proofs.RowLemmas.{Going, GoingParts}
use Rattle.c_fewer_functions.proofs.statements.+fewer_in.Given as goal

abbrev pub invariant-fewer_in_all-loop-statement : goal.invariant-fewer_in_all-loop-statement
invariant-fewer_in_all-loop-statement l = Going l.fn.types l.types l.fn.here l.here l.trees.items (drop l.statement-index l.all.items.items) l.all.items.items

abbrev pub invariant-fewer_in_parts-loop-part : goal.invariant-fewer_in_parts-loop-part
invariant-fewer_in_parts-loop-part l = GoingParts l.fn.types l.types l.fn.here l.here l.trees.items (drop l.part-index l.all.items.items) l.all.items.items

abbrev pub decreases-fewer_in : goal.decreases-fewer_in
decreases-fewer_in l = 5 * (stmt.the_size l.statement.now) + 0

abbrev pub decreases-alone : goal.decreases-alone
decreases-alone l = 5 * (stmt.the_size l.statement.now) + 1

abbrev pub decreases-fewer_in_all : goal.decreases-fewer_in_all
decreases-fewer_in_all l = 5 * (row.the_size l.all.now) + 0

abbrev pub decreases-enclosed : goal.decreases-enclosed
decreases-enclosed l = 5 * (row.the_size l.all.now) + 1

abbrev pub decreases-guarded : goal.decreases-guarded
decreases-guarded l = 5 * (stmt.the_size l.body.now) + 2

abbrev pub decreases-again : goal.decreases-again
decreases-again l = 5 * (stmt.the_size l.body.now) + 2

abbrev pub decreases-once_more : goal.decreases-once_more
decreases-once_more l = 5 * (stmt.the_size l.body.now) + 2

abbrev pub decreases-turns : goal.decreases-turns
decreases-turns l = 5 * (stmt.the_size l.body.now) + 2

abbrev pub decreases-chosen : goal.decreases-chosen
decreases-chosen l = 5 * (max (stmt.the_size l.body.now) (stmt.the_size l.other.now)) + 2

abbrev pub decreases-counting_in_block : goal.decreases-counting_in_block
decreases-counting_in_block l = 5 * (max (row.the_size l.head.now) (stmt.the_size l.body.now)) + 3

abbrev pub decreases-counting_behind : goal.decreases-counting_behind
decreases-counting_behind l = 5 * (stmt.the_size l.body.now) + 3

abbrev pub decreases-counting : goal.decreases-counting
decreases-counting l = 5 * (max (stmt.the_size l.head.now) (stmt.the_size l.body.now)) + 4

abbrev pub decreases-fewer_in_parts : goal.decreases-fewer_in_parts
decreases-fewer_in_parts l = 5 * (part_row.the_size l.all.now) + 0

abbrev pub decreases-switch : goal.decreases-switch
decreases-switch l = 5 * (part_row.the_size l.all.now) + 1

abbrev pub decreases-fewer_in_part : goal.decreases-fewer_in_part
decreases-fewer_in_part l = 5 * (part.the_size l.part.now) + 0
