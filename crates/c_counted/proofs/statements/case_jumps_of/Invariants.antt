use Rattle.std.proofs.Common.{map, drop}
use Rattle.c_syntax.specs.Plain.{parts}
use Rattle.c_syntax.specs.View.{part_of}
use Rattle.c_lowered.specs.Counts.{case_jumps}
use Rattle.c_counted.specs.Rows.{parts_of}
use Rattle.c_counted.proofs.GoingLemmas.{Going}
use Rattle.c_counted.proofs.statements.case_jumps_of.Given as goal

abbrev pub invariant-loop-part : goal.invariant-loop-part
invariant-loop-part l = Going l.sum (case_jumps (parts (map part_of (drop l.part-index l.all.items.items)))) (case_jumps (parts_of l.all))
