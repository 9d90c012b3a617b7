use Rattle.std.proofs.Common.{◌+◌, ◌-◌, ◌*◌, max, map, drop}
use Rattle.c_syntax.specs.Plain.{exprs}
use Rattle.c_syntax.specs.View.{expr_of, exprs_of}
use Rattle.c_syntax.specs.declared.tree.Exprs.{out-Exprs}
use Rattle.c_syntax.proofs.tree.Expr.TheLaws as expr
use Rattle.c_syntax.proofs.tree.Exprs.TheLaws as row
use Rattle.c_syntax.proofs.tree.Ty.TheLaws as type
use Rattle.c_syntax.proofs.tree.Tys.TheLaws as types
use Rattle.c_expressions.proofs.GoingLemmas.{Going, GoingTypes}
use Rattle.c_expressions.proofs.expressions.+expressions.Given as goal

abbrev pub invariant-judge_all-loop-e : goal.invariant-judge_all-loop-e
invariant-judge_all-loop-e l = Going l.fn.types l.types l.declared l.collected (exprs (map expr_of (drop l.e-index (out-Exprs l.all).items.items))) (exprs_of l.all)

abbrev pub invariant-written_all-loop-k : goal.invariant-written_all-loop-k
invariant-written_all-loop-k l = GoingTypes l.fn.types l.types l.declared l.at l.list (drop (l.count - l.k) l.all.items.items)

abbrev pub decreases-judge : goal.decreases-judge
decreases-judge l = 3 * (expr.the_size l.e.now) + 0

abbrev pub decreases-judge_one : goal.decreases-judge_one
decreases-judge_one l = 3 * (expr.the_size l.a.now) + 1

abbrev pub decreases-judge_two : goal.decreases-judge_two
decreases-judge_two l = 3 * (max (expr.the_size l.a.now) (expr.the_size l.b.now)) + 1

abbrev pub decreases-judge_three : goal.decreases-judge_three
decreases-judge_three l = 3 * (max (expr.the_size l.a.now) (max (expr.the_size l.b.now) (expr.the_size l.c.now))) + 1

abbrev pub decreases-judge_cast : goal.decreases-judge_cast
decreases-judge_cast l = 3 * (max (type.the_size l.t.now) (expr.the_size l.a.now)) + 1

abbrev pub decreases-judge_type_size : goal.decreases-judge_type_size
decreases-judge_type_size l = 3 * (type.the_size l.t.now) + 1

abbrev pub decreases-judge_size : goal.decreases-judge_size
decreases-judge_size l = 3 * (expr.the_size l.a.now) + 2

abbrev pub decreases-judge_callee : goal.decreases-judge_callee
decreases-judge_callee l = 3 * (expr.the_size l.f.now) + 1

abbrev pub decreases-judge_all : goal.decreases-judge_all
decreases-judge_all l = 3 * (row.the_size l.all.now) + 0

abbrev pub decreases-judge_call : goal.decreases-judge_call
decreases-judge_call l = 3 * (max (expr.the_size l.f.now) (row.the_size l.arguments.now)) + 2

abbrev pub decreases-written : goal.decreases-written
decreases-written l = 3 * (type.the_size l.t.now) + 0

abbrev pub decreases-written_array : goal.decreases-written_array
decreases-written_array l = 3 * (max (type.the_size l.of.now) (expr.the_size l.length.now)) + 1

abbrev pub decreases-written_function : goal.decreases-written_function
decreases-written_function l = 3 * (max (type.the_size l.gives.now) (types.the_size l.parameters.now)) + 1

abbrev pub decreases-written_all : goal.decreases-written_all
decreases-written_all l = 3 * (types.the_size l.all.now) + 0
