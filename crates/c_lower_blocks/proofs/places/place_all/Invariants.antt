use Rattle.std.proofs.Common.{map, drop}
use Rattle.c_syntax.specs.Plain.{stmts}
use Rattle.c_syntax.specs.View.{stmt_of}
use Rattle.c_counted.specs.Rows.{stmts_of}
use Rattle.c_lower_blocks.proofs.LaidLemmas.{Placing}
use Rattle.c_lower_blocks.proofs.places.place_all.Given as goal

abbrev pub invariant-loop-t : goal.invariant-loop-t
invariant-loop-t l = Placing l.fn.out l.out l.fn.here l.here l.free l.behind (stmts (map stmt_of (drop l.t-index l.all.items.items))) (stmts_of l.all)
