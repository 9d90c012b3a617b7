use Rattle.std.proofs.Common.{ℕ, List, [], ◌∷◌, ap, ◌∙◌}
use Rattle.c_syntax.specs.View.{expr_of}
use Rattle.c_helpers.specs.Fewer as fewer
use Rattle.c_helpers.specs.Fewer.{helper_call}
use Rattle.c_fewer_operators.proofs.TreeLemmas.{made, moved_name}
use Rattle.c_fewer_operators.proofs.operators.moved_pointer.Goals as goal

pub returns : goal.returns
returns c = λ s t stands has.
    let at = c.args.at in
    let a = expr_of c.args.a in
    let b = expr_of c.args.b in
    let words = expr_of c.args.words in
    made c.as_type.result (fewer.as_type at t (expr_of c.in_ok-moved.moved)) (fewer.moved_pointer at t c.args.unsigned a b words)
    (ap (fewer.as_type at t) (c.in_ok-moved.ensures ∙ ap (λ (n : List ℕ). helper_call at n (a ∷ b ∷ words ∷ [])) (c.name_by-name.ensures ∙ moved_name c.args.unsigned))) (c.as_type.ensures s t stands has)
