use Rattle.std.proofs.Common.{◌+◌, ◌*◌, max}
use Rattle.c_syntax.proofs.tree.Expr.TheLaws as expr
use Rattle.c_addressing.proofs.quiet.+quiet.Given as goal

abbrev pub decreases-is_quiet : goal.decreases-is_quiet
decreases-is_quiet l = 2 * (expr.the_size l.e.now) + 0

abbrev pub decreases-both : goal.decreases-both
decreases-both l = 2 * (max (expr.the_size l.a.now) (expr.the_size l.b.now)) + 1
