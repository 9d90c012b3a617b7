use Rattle.std.proofs.Common.{◌≡◌, ◌++◌, map, drop}
use Rattle.c_syntax.specs.View.{item_of}
use Rattle.c_grammar.specs.Tree.{all_items}
use Rattle.c_grammar.specs.Values.{meanings_of}
use Rattle.c_held.specs.View.{row_of}
use Rattle.c_declare_externals.proofs.externals.push_each_external.Given as goal

abbrev pub invariant-loop-made : goal.invariant-loop-made
invariant-loop-made l = map item_of l.items.items ++ all_items (meanings_of (row_of (drop l.made-index l.row))) ≡ map item_of l.fn.items.items ++ all_items (meanings_of (row_of l.fn.row))
