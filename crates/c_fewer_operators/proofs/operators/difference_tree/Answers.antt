use Rattle.std.proofs.Common.{Bool, not, sym, ap, ◌∙◌, if◌then◌else◌}
use Rattle.c_syntax.specs.Plain as plain
use Rattle.c_syntax.specs.View.{expr_of}
use Rattle.c_syntax.specs.declared.tree.BinOp.TheVariants as binary
use Rattle.c_helpers.specs.Fewer as fewer
use Rattle.c_fewer_operators.specs.Parts as parts
use Rattle.c_fewer_operators.proofs.TreeLemmas.{made}
use Rattle.c_fewer_operators.proofs.operators.difference_tree.Goals as goal

pub returns-then-is_wide : goal.returns-then-is_wide
returns-then-is_wide c = λ s x y stands hx hy.
    let at = c.args.at in
    let a = expr_of c.args.a in
    let b = expr_of c.args.b in
    made c.wide_difference.result (parts.wide_difference s.tags at x y a b) (fewer.difference_tree s.tags at x y a b)
    (ap (λ (w : Bool). if not w then plain.Binary at binary.Sub a b else parts.wide_difference s.tags at x y a b) (sym c.if-is_wide.true ∙ c.is_wide.ensures s x stands hx)) (c.wide_difference.ensures s x y stands hx hy)

pub returns-else-is_wide : goal.returns-else-is_wide
returns-else-is_wide c = λ s x y stands hx hy.
    let at = c.args.at in
    let a = expr_of c.args.a in
    let b = expr_of c.args.b in
    made c.binary.result (plain.Binary at binary.Sub a b) (fewer.difference_tree s.tags at x y a b)
    (ap (λ (w : Bool). if not w then plain.Binary at binary.Sub a b else parts.wide_difference s.tags at x y a b) (sym c.if-is_wide.false ∙ c.is_wide.ensures s x stands hx)) c.binary.ensures
