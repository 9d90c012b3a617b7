use Rattle.std.proofs.Common.{◌≡◌, ◌++◌, drop, length}
use Rattle.c_syntax.specs.View.{decls_of}
use Rattle.c_helpers.specs.Functions.{arguments_from}
use Rattle.c_format_terms.proofs.parameters.parameters.Given as goal

-- the parameters so far, and those for the letters that are left
abbrev pub invariant-loop-letter : goal.invariant-loop-letter
invariant-loop-letter l = decls_of l.items.items ++ arguments_from (length (decls_of l.items.items)) (drop l.letter-index l.letters) ≡ arguments_from 0 l.letters
