use Rattle.std.proofs.Common.{◌≡◌, ◌++◌, map, drop}
use Rattle.std.specs.VecDeque.{deque_len}
use Rattle.c_syntax.specs.Plain as plain
use Rattle.c_syntax.specs.Plain.{CTy}
use Rattle.c_syntax.specs.View.{expr_of, ty_of, decls_of, stmt_of, part_of, item_of}
use Rattle.c_grammar.specs.Tree as grammar
use Rattle.c_grammar.specs.Values.{meanings_of}
use Rattle.c_held.specs.View.{row_of, all_of, layers_of}
use Rattle.c_held_rows.proofs.rows.push_each_lengths.Given as goal

abbrev pub invariant-loop-made : goal.invariant-loop-made
invariant-loop-made l = (t : CTy) → layers_of l.layers.items (grammar.arrays (meanings_of (row_of (drop l.made-index l.row))) t) ≡ layers_of l.fn.layers.items (grammar.arrays (meanings_of (row_of l.fn.row)) t)
