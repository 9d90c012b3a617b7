use Rattle.std.proofs.Common.{map, drop}
use Rattle.c_syntax.specs.Plain.{parts}
use Rattle.c_syntax.specs.View.{part_of}
use Rattle.c_counted.specs.Rows.{parts_of}
use Rattle.c_lower_statements.proofs.CaseLemmas.{Seeking}
use Rattle.c_lower_statements.proofs.switches.default_block.Given as goal

abbrev pub invariant-loop-part : goal.invariant-loop-part
invariant-loop-part l = Seeking l.k l.block (parts (map part_of (drop l.part-index l.parts.items.items))) (parts_of l.parts)
