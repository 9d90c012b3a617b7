use Rattle.std.proofs.Common.{◌≡◌, ◌++◌, map, drop}
use Rattle.c_syntax.specs.View.{item_of}
use Rattle.c_helper_terms.specs.Helpers.{external}
use Rattle.c_helper_terms.proofs.externals.add_helpers.Given as goal

-- what is made, and what the rows that are left come to
abbrev pub invariant-loop-row : goal.invariant-loop-row
invariant-loop-row l = map item_of l.items.items ++ map external (drop l.row-index l.helpers) ≡ map item_of l.fn.items.items ++ map external l.helpers
