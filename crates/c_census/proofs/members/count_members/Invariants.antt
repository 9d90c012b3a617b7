use Rattle.std.proofs.Common.{drop}
use Rattle.c_syntax.specs.View.{decls_of}
use Rattle.c_types.specs.Census.{members_sum}
use Rattle.c_weights.proofs.GoingLemmas.{Going}
use Rattle.c_census.proofs.members.count_members.Given as goal

abbrev pub invariant-loop-m : goal.invariant-loop-m
invariant-loop-m l = Going l.fn.types l.types l.declared l.sum (λ s k. members_sum k s (decls_of (drop l.m-index l.all.items.items))) (λ s k. members_sum k s (decls_of l.all.items.items))
