use Rattle.std.proofs.Common.{drop}
use Rattle.c_syntax.specs.View.{decls_of}
use Rattle.c_types.specs.Census.{parameters_sum}
use Rattle.c_census.specs.Sums.{parameters_behind}
use Rattle.c_census.proofs.GoingLemmas.{Going}
use Rattle.c_census.proofs.members.count_parameters.Given as goal

abbrev pub invariant-loop-p : goal.invariant-loop-p
invariant-loop-p l =
    Going l.fn.types l.types l.fn.declared l.declared l.sum (λ s k. parameters_sum k s (decls_of (drop l.p-index l.all.items.items))) (λ s k. parameters_sum k s (decls_of l.all.items.items))
    (λ s. parameters_behind s (decls_of (drop l.p-index l.all.items.items))) (λ s. parameters_behind s (decls_of l.all.items.items))
