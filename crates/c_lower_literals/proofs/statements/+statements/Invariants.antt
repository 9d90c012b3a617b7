use Rattle.std.proofs.Common.{◌+◌, ◌*◌, max, map, drop}
use Rattle.c_syntax.specs.Plain.{stmts, parts}
use Rattle.c_syntax.specs.View.{stmt_of, part_of}
use Rattle.c_syntax.proofs.tree.Stmt.TheLaws as stmt
use Rattle.c_syntax.proofs.tree.Stmts.TheLaws as row
use Rattle.c_syntax.proofs.tree.Part.TheLaws as part
use Rattle.c_syntax.proofs.tree.Parts.TheLaws as switch
use Rattle.c_types.specs.Census.{scope_behind_all}
use Rattle.c_census.specs.Sums.{stmts_of, parts_of, parts_behind}
use Rattle.c_eval.specs.LiteralsIn.{stmts_literals, parts_literals}
use Rattle.c_lower_literals.proofs.GatherLemmas.{Going}
use Rattle.c_lower_literals.proofs.statements.+statements.Given as goal

abbrev pub invariant-list_literals-loop-statement : goal.invariant-list_literals-loop-statement
invariant-list_literals-loop-statement l =
    Going l.fn.types l.types l.fn.declared l.declared l.fn.texts.items l.texts.items (λ s. stmts_literals s (stmts (map stmt_of (drop l.statement-index l.all.items.items)))) (λ s. stmts_literals s (stmts_of l.all))
    (λ s. scope_behind_all s (stmts (map stmt_of (drop l.statement-index l.all.items.items)))) (λ s. scope_behind_all s (stmts_of l.all))

abbrev pub invariant-parts_literals-loop-part : goal.invariant-parts_literals-loop-part
invariant-parts_literals-loop-part l =
    Going l.fn.types l.types l.fn.declared l.declared l.fn.texts.items l.texts.items (λ s. parts_literals s (parts (map part_of (drop l.part-index l.all.items.items)))) (λ s. parts_literals s (parts_of l.all))
    (λ s. parts_behind s (parts (map part_of (drop l.part-index l.all.items.items)))) (λ s. parts_behind s (parts_of l.all))

abbrev pub decreases-statement_literals : goal.decreases-statement_literals
decreases-statement_literals l = 5 * (stmt.the_size l.statement.now) + 0

abbrev pub decreases-body_literals : goal.decreases-body_literals
decreases-body_literals l = 5 * (stmt.the_size l.statement.now) + 1

abbrev pub decreases-list_literals : goal.decreases-list_literals
decreases-list_literals l = 5 * (row.the_size l.all.now) + 0

abbrev pub decreases-block_literals : goal.decreases-block_literals
decreases-block_literals l = 5 * (row.the_size l.all.now) + 1

abbrev pub decreases-guarded_literals : goal.decreases-guarded_literals
decreases-guarded_literals l = 5 * (stmt.the_size l.body.now) + 2

abbrev pub decreases-do_literals : goal.decreases-do_literals
decreases-do_literals l = 5 * (stmt.the_size l.body.now) + 2

abbrev pub decreases-choice_literals : goal.decreases-choice_literals
decreases-choice_literals l = 5 * (max (stmt.the_size l.body.now) (stmt.the_size l.other.now)) + 3

abbrev pub decreases-rest_literals : goal.decreases-rest_literals
decreases-rest_literals l = 5 * (stmt.the_size l.body.now) + 2

abbrev pub decreases-for_block_literals : goal.decreases-for_block_literals
decreases-for_block_literals l = 5 * (max (row.the_size l.head.now) (stmt.the_size l.body.now)) + 3

abbrev pub decreases-for_local_literals : goal.decreases-for_local_literals
decreases-for_local_literals l = 5 * (stmt.the_size l.body.now) + 3

abbrev pub decreases-for_literals : goal.decreases-for_literals
decreases-for_literals l = 5 * (max (stmt.the_size l.head.now) (stmt.the_size l.body.now)) + 4

abbrev pub decreases-switch_literals : goal.decreases-switch_literals
decreases-switch_literals l = 5 * (switch.the_size l.parts.now) + 1

abbrev pub decreases-parts_literals : goal.decreases-parts_literals
decreases-parts_literals l = 5 * (switch.the_size l.all.now) + 0

abbrev pub decreases-part_literals : goal.decreases-part_literals
decreases-part_literals l = 5 * (part.the_size l.part.now) + 0
