use Rattle.std.proofs.Common.{ℕ, List, [], ◌∷◌, ◌++◌, ap, ◌∙◌}
use Rattle.std.specs.Prelude.{codes}
use Rattle.c_syntax.specs.Plain.{CExpr}
use Rattle.c_syntax.specs.View.{expr_of}
use Rattle.c_operands.specs.Classes.{pointer}
use Rattle.c_helpers.specs.Fewer as fewer
use Rattle.c_helpers.specs.Fewer.{kind_word, helper_call}
use Rattle.c_fewer_operators.proofs.TreeLemmas.{made, place_name}
use Rattle.c_fewer_operators.proofs.places.moved_place.Goals as goal

pub returns : goal.returns
returns c = λ s t stands has.
    let at = c.args.at in
    let a = expr_of c.args.a in
    let b = expr_of c.args.b in
    let words = expr_of c.args.words in
    let place = expr_of c.in_ok-place.place in
    made c.as_type.result (fewer.as_type at t (expr_of c.in_ok-moved.moved)) (fewer.moved_place at t c.args.unsigned a b words)
    (ap (fewer.as_type at t) (c.in_ok-moved.ensures ∙ (ap (λ (n : List ℕ). helper_call at n (place ∷ b ∷ words ∷ [])) (c.name_by-name.ensures ∙ place_name c.args.unsigned)
    ∙ ap (λ (p : CExpr). helper_call at (codes "pointer += " ++ kind_word c.args.unsigned) (p ∷ b ∷ words ∷ [])) c.in_ok-place.ensures))) (c.as_type.ensures s t stands has)
