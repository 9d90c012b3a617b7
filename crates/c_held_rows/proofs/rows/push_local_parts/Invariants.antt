use Rattle.std.proofs.Common.{◌≡◌, ◌++◌, map, drop}
use Rattle.std.specs.VecDeque.{deque_len}
use Rattle.c_syntax.specs.Plain as plain
use Rattle.c_syntax.specs.Plain.{CTy}
use Rattle.c_syntax.specs.View.{expr_of, ty_of, decls_of, stmt_of, part_of, item_of}
use Rattle.c_grammar.specs.Tree as grammar
use Rattle.c_grammar.specs.Values.{meanings_of}
use Rattle.c_held.specs.View.{row_of, all_of, layers_of}
use Rattle.c_held_rows.proofs.rows.push_local_parts.Given as goal

abbrev pub invariant-loop-decl : goal.invariant-loop-decl
invariant-loop-decl l = map part_of l.parts.items ++ map grammar.local_part (decls_of l.left.items) ≡ map part_of l.fn.parts.items ++ map grammar.local_part (decls_of l.fn.decls.items)

abbrev pub decreases-loop-decl : goal.decreases-loop-decl
decreases-loop-decl l = deque_len l.left
