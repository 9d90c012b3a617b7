use Rattle.std.proofs.Common.{[], ◌∷◌, ap, ◌∙◌}
use Rattle.std.specs.Prelude.{codes}
use Rattle.c_syntax.specs.Plain.{CExpr}
use Rattle.c_syntax.specs.View.{expr_of}
use Rattle.c_operands.specs.Classes.{pointer}
use Rattle.c_helpers.specs.Fewer as fewer
use Rattle.c_helpers.specs.Fewer.{helper_call}
use Rattle.c_fewer_operators.specs.Parts as parts
use Rattle.c_fewer_operators.proofs.TreeLemmas.{made}
use Rattle.c_fewer_operators.proofs.places.stepped_place.Goals as goal

pub returns : goal.returns
returns c = λ s t stands has.
    let at = c.args.at in
    let a = expr_of c.args.a in
    let words = expr_of c.args.words in
    made c.as_type.result (fewer.as_type at t (expr_of c.in_ok-moved.moved)) (parts.stepped_place at t a words)
    (ap (fewer.as_type at t) (c.in_ok-moved.ensures ∙ ap (λ (p : CExpr). helper_call at (codes "pointer++") (p ∷ words ∷ [])) c.in_ok-place.ensures)) (c.as_type.ensures s t stands has)
