use Rattle.std.proofs.Common.{drop}
use Rattle.c_syntax.specs.View.{decls_of}
use Rattle.c_declarations.proofs.MemberGoing.{Going}
use Rattle.c_declarations.proofs.members.judge_members.Given as goal

abbrev pub invariant-loop-m : goal.invariant-loop-m
invariant-loop-m l = Going l.fn.types l.types l.declared l.members l.told (decls_of (drop l.m-index l.all.items.items)) (decls_of l.all.items.items)
