use Rattle.std.proofs.Common.{◌+◌, ◌*◌, max, map, drop}
use Rattle.c_syntax.specs.Plain.{stmts, parts}
use Rattle.c_syntax.specs.View.{stmt_of, part_of}
use Rattle.c_syntax.proofs.tree.Stmt.TheLaws as stmt
use Rattle.c_syntax.proofs.tree.Stmts.TheLaws as row
use Rattle.c_syntax.proofs.tree.Parts.TheLaws as switch
use Rattle.c_syntax.proofs.tree.Part.TheLaws as part
use Rattle.c_lowered.specs.Counts.{stmts_jumps, parts_jumps}
use Rattle.c_counted.specs.Rows.{stmts_of, parts_of}
use Rattle.c_counted.proofs.GoingLemmas.{Going}
use Rattle.c_counted.proofs.statements.+statements.Given as goal

abbrev pub invariant-statements_jumps_of-loop-statement : goal.invariant-statements_jumps_of-loop-statement
invariant-statements_jumps_of-loop-statement l = Going l.sum (stmts_jumps (stmts (map stmt_of (drop l.statement-index l.all.items.items)))) (stmts_jumps (stmts_of l.all))

abbrev pub invariant-parts_jumps_of-loop-part : goal.invariant-parts_jumps_of-loop-part
invariant-parts_jumps_of-loop-part l = Going l.sum (parts_jumps (parts (map part_of (drop l.part-index l.all.items.items)))) (parts_jumps (parts_of l.all))

abbrev pub decreases-statement_jumps_of : goal.decreases-statement_jumps_of
decreases-statement_jumps_of l = 4 * (stmt.the_size l.statement.now) + 0

abbrev pub decreases-guarded : goal.decreases-guarded
decreases-guarded l = 4 * (stmt.the_size l.t.now) + 1

abbrev pub decreases-chosen : goal.decreases-chosen
decreases-chosen l = 4 * (max (stmt.the_size l.t.now) (stmt.the_size l.u.now)) + 2

abbrev pub decreases-repeated : goal.decreases-repeated
decreases-repeated l = 4 * (stmt.the_size l.t.now) + 1

abbrev pub decreases-looped : goal.decreases-looped
decreases-looped l = 4 * (max (stmt.the_size l.first.now) (stmt.the_size l.t.now)) + 1

abbrev pub decreases-switched : goal.decreases-switched
decreases-switched l = 4 * (switch.the_size l.parts.now) + 1

abbrev pub decreases-statements_jumps_of : goal.decreases-statements_jumps_of
decreases-statements_jumps_of l = 4 * (row.the_size l.all.now) + 0

abbrev pub decreases-part_jumps_of : goal.decreases-part_jumps_of
decreases-part_jumps_of l = 4 * (part.the_size l.part.now) + 0

abbrev pub decreases-parts_jumps_of : goal.decreases-parts_jumps_of
decreases-parts_jumps_of l = 4 * (switch.the_size l.all.now) + 0
