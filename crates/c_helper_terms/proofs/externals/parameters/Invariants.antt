use Rattle.std.proofs.Common.{◌≡◌, ◌++◌, map, drop}
use Rattle.c_syntax.specs.View.{decl_of}
use Rattle.c_helper_terms.specs.Helpers.{parameter_of}
use Rattle.c_helper_terms.proofs.externals.parameters.Given as goal

-- what is made, and what the rows that are left come to
abbrev pub invariant-loop-row : goal.invariant-loop-row
invariant-loop-row l = map decl_of l.items.items ++ map parameter_of (drop l.row-index l.all) ≡ map parameter_of l.all
