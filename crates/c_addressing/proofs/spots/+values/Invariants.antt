use Rattle.std.proofs.Common.{◌+◌, ◌*◌}
use Rattle.c_syntax.proofs.tree.Expr.TheLaws as expr
use Rattle.c_addressing.proofs.spots.+values.Given as goal

abbrev pub decreases-direct : goal.decreases-direct
decreases-direct l = 3 * (expr.the_size l.e.now) + 0

abbrev pub decreases-address_direct : goal.decreases-address_direct
decreases-address_direct l = 3 * (expr.the_size l.a.now) + 1

abbrev pub decreases-unary_direct : goal.decreases-unary_direct
decreases-unary_direct l = 3 * (expr.the_size l.a.now) + 2
