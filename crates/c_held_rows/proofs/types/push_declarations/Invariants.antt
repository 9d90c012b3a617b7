use Rattle.std.proofs.Common.{◌≡◌, ◌++◌, drop}
use Rattle.c_syntax.specs.View.{decls_of}
use Rattle.c_held.specs.View.{all_of, base_of}
use Rattle.c_held_rows.proofs.types.push_declarations.Given as goal

abbrev pub invariant-loop-declared : goal.invariant-loop-declared
invariant-loop-declared l = decls_of l.decls.items ++ all_of (drop l.declared-index l.all) (base_of l.base) ≡ decls_of l.fn.decls.items ++ all_of l.fn.all (base_of l.base)
