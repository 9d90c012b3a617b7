use Rattle.std.proofs.Common.{◌+◌, ◌*◌}
use Rattle.c_syntax.proofs.tree.Expr.TheLaws as expr
use Rattle.c_addressing.proofs.spots.+places.Given as goal

abbrev pub decreases-known_place : goal.decreases-known_place
decreases-known_place l = 2 * (expr.the_size l.e.now) + 0

abbrev pub decreases-member_place : goal.decreases-member_place
decreases-member_place l = 2 * (expr.the_size l.a.now) + 1
