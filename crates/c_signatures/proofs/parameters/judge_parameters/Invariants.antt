use Rattle.std.proofs.Common.{drop}
use Rattle.c_syntax.specs.View.{decls_of}
use Rattle.c_signatures.proofs.GoingLemmas.{Going}
use Rattle.c_signatures.proofs.parameters.judge_parameters.Given as goal

abbrev pub invariant-loop-p : goal.invariant-loop-p
invariant-loop-p l = Going l.fn.types l.types l.fn.declared l.declared l.parameters.items l.told (decls_of (drop l.p-index l.all.items.items)) (decls_of l.all.items.items)
