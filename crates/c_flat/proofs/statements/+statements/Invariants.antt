use Rattle.std.proofs.Common.{◌+◌, ◌*◌, max, map, drop}
use Rattle.c_syntax.specs.Plain.{stmts, parts}
use Rattle.c_syntax.specs.View.{stmt_of, part_of}
use Rattle.c_syntax.proofs.tree.Stmt.TheLaws as stmt
use Rattle.c_syntax.proofs.tree.Stmts.TheLaws as row
use Rattle.c_syntax.proofs.tree.Part.TheLaws as part
use Rattle.c_syntax.proofs.tree.Parts.TheLaws as part_row
use Rattle.c_statements.specs.Trees.{stmts_of, parts_of}
use Rattle.c_flat.proofs.GoingLemmas.{Going, PartsGoing}
use Rattle.c_flat.proofs.statements.+statements.Given as goal

abbrev pub invariant-all_statements-loop-t : goal.invariant-all_statements-loop-t
invariant-all_statements-loop-t l = Going l.fn.types l.types l.fn.here l.here l.kinds l.fn.out l.out l.fn.block l.block (stmts (map stmt_of (drop l.t-index l.all.items.items))) (stmts_of l.all)

abbrev pub invariant-all_parts-loop-part : goal.invariant-all_parts-loop-part
invariant-all_parts-loop-part l = PartsGoing l.fn.types l.types l.fn.here l.here l.kinds l.fn.out l.out l.fn.block l.block l.labels.items (parts (map part_of (drop l.part-index l.parts.items.items))) (parts_of l.parts)

abbrev pub decreases-statement : goal.decreases-statement
decreases-statement l = 5 * (stmt.the_size l.t.now) + 0

abbrev pub decreases-all_statements : goal.decreases-all_statements
decreases-all_statements l = 5 * (row.the_size l.all.now) + 0

abbrev pub decreases-inner_block : goal.decreases-inner_block
decreases-inner_block l = 5 * (row.the_size l.all.now) + 1

abbrev pub decreases-one_choice : goal.decreases-one_choice
decreases-one_choice l = 5 * (stmt.the_size l.body.now) + 2

abbrev pub decreases-two_choices : goal.decreases-two_choices
decreases-two_choices l = 5 * (max (stmt.the_size l.body.now) (stmt.the_size l.other.now)) + 2

abbrev pub decreases-looped : goal.decreases-looped
decreases-looped l = 5 * (stmt.the_size l.body.now) + 2

abbrev pub decreases-do_loop : goal.decreases-do_loop
decreases-do_loop l = 5 * (stmt.the_size l.body.now) + 2

abbrev pub decreases-for_block : goal.decreases-for_block
decreases-for_block l = 5 * (max (row.the_size l.head.now) (stmt.the_size l.body.now)) + 3

abbrev pub decreases-for_loop : goal.decreases-for_loop
decreases-for_loop l = 5 * (max (stmt.the_size l.head.now) (stmt.the_size l.body.now)) + 4

abbrev pub decreases-all_parts : goal.decreases-all_parts
decreases-all_parts l = 5 * (part_row.the_size l.parts.now) + 0

abbrev pub decreases-switch : goal.decreases-switch
decreases-switch l = 5 * (part_row.the_size l.parts.now) + 1

abbrev pub decreases-one_part : goal.decreases-one_part
decreases-one_part l = 5 * (part.the_size l.part.now) + 0
