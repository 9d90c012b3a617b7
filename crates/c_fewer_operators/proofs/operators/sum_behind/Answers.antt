use Rattle.std.proofs.Common.{Bool, sym, ap, ◌∙◌, if◌then◌else◌}
use Rattle.c_syntax.specs.Plain as plain
use Rattle.c_syntax.specs.View.{expr_of}
use Rattle.c_syntax.specs.declared.tree.BinOp.TheVariants as binary
use Rattle.c_fewer_operators.specs.Parts as parts
use Rattle.c_fewer_operators.proofs.TreeLemmas.{made}
use Rattle.c_fewer_operators.proofs.operators.sum_behind.Goals as goal

pub returns-then-is_wide : goal.returns-then-is_wide
returns-then-is_wide c = λ s x y stands hx hy.
    let at = c.args.at in
    let a = expr_of c.args.a in
    let b = expr_of c.args.b in
    made c.moved_behind.result (parts.moved_behind s.tags at x y a b) (parts.sum_behind s.tags at x y a b)
    (ap (λ (w : Bool). if w then parts.moved_behind s.tags at x y a b else plain.Binary at binary.Add a b) (sym c.if-is_wide.true ∙ c.is_wide.ensures s y stands hy)) (c.moved_behind.ensures s x y stands hx hy)

pub returns-else-is_wide : goal.returns-else-is_wide
returns-else-is_wide c = λ s x y stands hx hy.
    let at = c.args.at in
    let a = expr_of c.args.a in
    let b = expr_of c.args.b in
    made c.binary.result (plain.Binary at binary.Add a b) (parts.sum_behind s.tags at x y a b)
    (ap (λ (w : Bool). if w then parts.moved_behind s.tags at x y a b else plain.Binary at binary.Add a b) (sym c.if-is_wide.false ∙ c.is_wide.ensures s y stands hy)) c.binary.ensures
