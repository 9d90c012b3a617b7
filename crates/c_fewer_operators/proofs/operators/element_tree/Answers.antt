use Rattle.std.proofs.Common.{Bool, ◌||◌, sym, ap, ◌∙◌, if◌then◌else◌}
use Rattle.c_syntax.specs.Plain as plain
use Rattle.c_syntax.specs.View.{expr_of}
use Rattle.c_syntax.specs.declared.tree.UnOp.TheVariants as unary
use Rattle.c_types.specs.Room.{is_wide_pointer}
use Rattle.c_helpers.specs.Fewer as fewer
use Rattle.c_fewer_operators.proofs.TreeLemmas.{made}
use Rattle.c_fewer_operators.proofs.operators.element_tree.Goals as goal

pub returns-in_ok-sum : goal.returns-in_ok-sum
returns-in_ok-sum c = λ s x y stands hx hy.
    let at = c.args.at in
    let a = expr_of c.args.a in
    let b = expr_of c.args.b in
    made c.unary.result (plain.Unary at unary.Deref (expr_of c.in_ok-sum.sum)) (fewer.element_tree s.tags at x y a b)
    (ap (plain.Unary at unary.Deref) (c.in_ok-sum.ensures s x y stands hx hy)
    ∙ ap (λ (w : Bool). if w then plain.Unary at unary.Deref (fewer.sum_tree s.tags at x y a b) else plain.Index at a b) (sym c.if-either.true ∙ (c.either.ensures ∙ (ap (λ (p : Bool). p || c.is_wide-2.result) (c.is_wide.ensures s x stands hx) ∙ ap (λ (p : Bool). is_wide_pointer s.tags x || p) (c.is_wide-2.ensures s y stands hy))))) c.unary.ensures

pub returns-else-either : goal.returns-else-either
returns-else-either c = λ s x y stands hx hy.
    let at = c.args.at in
    let a = expr_of c.args.a in
    let b = expr_of c.args.b in
    made c.index.result (plain.Index at a b) (fewer.element_tree s.tags at x y a b)
    (ap (λ (w : Bool). if w then plain.Unary at unary.Deref (fewer.sum_tree s.tags at x y a b) else plain.Index at a b) (sym c.if-either.false ∙ (c.either.ensures ∙ (ap (λ (p : Bool). p || c.is_wide-2.result) (c.is_wide.ensures s x stands hx) ∙ ap (λ (p : Bool). is_wide_pointer s.tags x || p) (c.is_wide-2.ensures s y stands hy))))) c.index.ensures
