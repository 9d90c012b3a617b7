use Rattle.std.proofs.Common.{ℕ, Bool, List, [], ◌∷◌, ◌++◌, ap, ◌∙◌}
use Rattle.std.specs.Prelude.{codes}
use Rattle.c_syntax.specs.Plain.{CExpr}
use Rattle.c_syntax.specs.View.{expr_of}
use Rattle.c_types.specs.Types.{is_unsigned}
use Rattle.c_operands.specs.Classes.{pointer}
use Rattle.c_helpers.specs.Fewer as fewer
use Rattle.c_helpers.specs.Fewer.{kind_word, helper_call}
use Rattle.c_fewer_operators.specs.Parts as parts
use Rattle.c_fewer_operators.proofs.TreeLemmas.{made, behind_name}
use Rattle.c_fewer_operators.proofs.operators.moved_behind.Goals as goal

pub returns : goal.returns
returns c = λ s x y stands hx hy.
    let at = c.args.at in
    let a = expr_of c.args.a in
    let b = expr_of c.args.b in
    let words = expr_of c.in_ok-words.words in
    let name = c.name_by-name.ensures ∙ (behind_name c.is_unsigned.result ∙ ap (λ (k : Bool). kind_word k ++ codes " + pointer") (c.is_unsigned.ensures x hx)) in
    made c.as_type.result (fewer.as_type at y (expr_of c.in_ok-moved.moved)) (parts.moved_behind s.tags at x y a b)
    (ap (fewer.as_type at y) (c.in_ok-moved.ensures ∙ (ap (λ (n : List ℕ). helper_call at n (a ∷ b ∷ words ∷ [])) name
    ∙ ap (λ (w : CExpr). helper_call at (kind_word (is_unsigned x) ++ codes " + pointer") (a ∷ b ∷ w ∷ [])) (c.in_ok-words.ensures s y stands hy)))) (c.as_type.ensures s y stands hy)
