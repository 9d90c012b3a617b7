use Rattle.std.proofs.Common.{◌≡◌, ◌+◌, ◌*◌, ◌++◌, max, map, drop}
use Rattle.c_syntax.specs.View.{expr_of, ty_of}
use Rattle.c_syntax.specs.declared.tree.Exprs.{out-Exprs}
use Rattle.c_syntax.proofs.tree.Expr.TheLaws as expr
use Rattle.c_syntax.proofs.tree.Exprs.TheLaws as row
use Rattle.c_syntax.proofs.tree.Ty.TheLaws as type
use Rattle.c_syntax.proofs.tree.Tys.TheLaws as types
use Rattle.c_copied_terms.proofs.copies.+copied.Given as goal

abbrev pub invariant-copied_all-loop-e : goal.invariant-copied_all-loop-e
invariant-copied_all-loop-e l = map expr_of l.copies.items ++ map expr_of (drop l.e-index (out-Exprs l.all).items.items) ≡ map expr_of (out-Exprs l.all).items.items

abbrev pub invariant-copied_types-loop-t : goal.invariant-copied_types-loop-t
invariant-copied_types-loop-t l = map ty_of l.copies.items ++ map ty_of (drop l.t-index l.all.items.items) ≡ map ty_of l.all.items.items

abbrev pub decreases-copied : goal.decreases-copied
decreases-copied l = 3 * (expr.the_size l.e.now) + 0

abbrev pub decreases-copied_unary : goal.decreases-copied_unary
decreases-copied_unary l = 3 * (expr.the_size l.a.now) + 1

abbrev pub decreases-copied_step : goal.decreases-copied_step
decreases-copied_step l = 3 * (expr.the_size l.a.now) + 1

abbrev pub decreases-copied_size : goal.decreases-copied_size
decreases-copied_size l = 3 * (expr.the_size l.a.now) + 1

abbrev pub decreases-copied_member : goal.decreases-copied_member
decreases-copied_member l = 3 * (expr.the_size l.a.now) + 1

abbrev pub decreases-copied_arrow : goal.decreases-copied_arrow
decreases-copied_arrow l = 3 * (expr.the_size l.a.now) + 1

abbrev pub decreases-copied_binary : goal.decreases-copied_binary
decreases-copied_binary l = 3 * (max (expr.the_size l.a.now) (expr.the_size l.b.now)) + 1

abbrev pub decreases-copied_assign : goal.decreases-copied_assign
decreases-copied_assign l = 3 * (max (expr.the_size l.a.now) (expr.the_size l.b.now)) + 1

abbrev pub decreases-copied_comma : goal.decreases-copied_comma
decreases-copied_comma l = 3 * (max (expr.the_size l.a.now) (expr.the_size l.b.now)) + 1

abbrev pub decreases-copied_index : goal.decreases-copied_index
decreases-copied_index l = 3 * (max (expr.the_size l.a.now) (expr.the_size l.b.now)) + 1

abbrev pub decreases-copied_cond : goal.decreases-copied_cond
decreases-copied_cond l = 3 * (max (expr.the_size l.a.now) (max (expr.the_size l.b.now) (expr.the_size l.c.now))) + 1

abbrev pub decreases-copied_cast : goal.decreases-copied_cast
decreases-copied_cast l = 3 * (max (type.the_size l.t.now) (expr.the_size l.a.now)) + 1

abbrev pub decreases-copied_size_type : goal.decreases-copied_size_type
decreases-copied_size_type l = 3 * (type.the_size l.t.now) + 1

abbrev pub decreases-copied_call : goal.decreases-copied_call
decreases-copied_call l = 3 * (max (expr.the_size l.f.now) (row.the_size l.es.now)) + 1

abbrev pub decreases-copied_all : goal.decreases-copied_all
decreases-copied_all l = 3 * (row.the_size l.all.now) + 0

abbrev pub decreases-copied_type : goal.decreases-copied_type
decreases-copied_type l = 3 * (type.the_size l.t.now) + 0

abbrev pub decreases-copied_array : goal.decreases-copied_array
decreases-copied_array l = 3 * (max (type.the_size l.of.now) (expr.the_size l.length.now)) + 1

abbrev pub decreases-copied_function : goal.decreases-copied_function
decreases-copied_function l = 3 * (max (type.the_size l.gives.now) (types.the_size l.parameters.now)) + 1

abbrev pub decreases-copied_types : goal.decreases-copied_types
decreases-copied_types l = 3 * (types.the_size l.all.now) + 0
