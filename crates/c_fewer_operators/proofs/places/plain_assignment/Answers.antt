use Rattle.std.proofs.Common.{Bool, Some, sym, ap, ◌∙◌, if◌then◌else◌}
use Rattle.c_syntax.specs.Plain as plain
use Rattle.c_syntax.specs.Plain.{CExpr}
use Rattle.c_syntax.specs.View.{expr_of}
use Rattle.c_types.specs.Types.{is_unsigned}
use Rattle.c_helpers.specs.Fewer as fewer
use Rattle.c_fewer_operators.proofs.TreeLemmas.{made}
use Rattle.c_fewer_operators.proofs.places.plain_assignment.Goals as goal

pub returns-in_ok-words : goal.returns-in_ok-words
returns-in_ok-words c = λ s x y stands hx hy.
    let at = c.args.at in
    let a = expr_of c.args.a in
    let b = expr_of c.args.b in
    let op = c.args.op in
    let words = expr_of c.in_ok-words.words in
    made c.moved_place.result (fewer.moved_place at x c.is_unsigned.result a b words) (fewer.plain_assignment s.tags at op x y a b)
    (ap (λ (k : Bool). fewer.moved_place at x k a b words) (c.is_unsigned.ensures y hy)
    ∙ (ap (λ (w : CExpr). fewer.moved_place at x (is_unsigned y) a b w) (c.in_ok-words.ensures s x stands hx)
    ∙ ap (λ (w : Bool). if w then fewer.moved_place at x (is_unsigned y) a b (fewer.words_by op s.tags x) else plain.Assign at (Some op) a b) (sym c.if-is_wide.true ∙ c.is_wide.ensures s x stands hx))) (c.moved_place.ensures s x stands hx)

pub returns-else-is_wide : goal.returns-else-is_wide
returns-else-is_wide c = λ s x y stands hx hy.
    let at = c.args.at in
    let a = expr_of c.args.a in
    let b = expr_of c.args.b in
    let op = c.args.op in
    made c.assign.result (plain.Assign at (Some op) a b) (fewer.plain_assignment s.tags at op x y a b)
    (ap (λ (w : Bool). if w then fewer.moved_place at x (is_unsigned y) a b (fewer.words_by op s.tags x) else plain.Assign at (Some op) a b) (sym c.if-is_wide.false ∙ c.is_wide.ensures s x stands hx)) c.assign.ensures
