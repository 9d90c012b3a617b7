use Rattle.std.proofs.Common.{◌-◌, Bool, [], ◌∷◌, sym, ap, ◌∙◌, if◌then◌else◌}
use Rattle.std.specs.Prelude.{codes}
use Rattle.c_syntax.specs.Plain.{CExpr}
use Rattle.c_syntax.specs.View.{expr_of}
use Rattle.c_types.specs.Types.{is_unsigned}
use Rattle.c_operands.specs.Classes.{pointer}
use Rattle.c_helpers.specs.Fewer as fewer
use Rattle.c_helpers.specs.Fewer.{helper_call}
use Rattle.c_fewer_operators.specs.Parts as parts
use Rattle.c_fewer_operators.proofs.TreeLemmas.{made}
use Rattle.c_fewer_operators.proofs.operators.wide_difference.Goals as goal

pub returns-in_ok-forth : goal.returns-in_ok-forth
returns-in_ok-forth c = λ s x y stands hx hy.
    let at = c.args.at in
    let a = expr_of c.args.a in
    let b = expr_of c.args.b in
    let words = expr_of c.in_ok-forth.forth in
    made c.call_three.result (helper_call at (codes "pointer - pointer") (a ∷ b ∷ words ∷ [])) (parts.wide_difference s.tags at x y a b)
    (ap (λ (w : CExpr). helper_call at (codes "pointer - pointer") (a ∷ b ∷ w ∷ [])) (c.in_ok-forth.ensures s x stands hx)
    ∙ ap (λ (w : Bool). if w then helper_call at (codes "pointer - pointer") (a ∷ b ∷ fewer.words_in s.tags x ∷ []) else fewer.moved_pointer at x (is_unsigned y) a b (fewer.words_back s.tags x)) (sym c.if-is_pointer.true ∙ c.is_pointer.ensures y hy)) c.call_three.ensures

pub returns-in_ok-back : goal.returns-in_ok-back
returns-in_ok-back c = λ s x y stands hx hy.
    let at = c.args.at in
    let a = expr_of c.args.a in
    let b = expr_of c.args.b in
    let words = expr_of c.in_ok-back.back in
    made c.moved_pointer.result (fewer.moved_pointer at x c.is_unsigned.result a b words) (parts.wide_difference s.tags at x y a b)
    (ap (λ (k : Bool). fewer.moved_pointer at x k a b words) (c.is_unsigned.ensures y hy)
    ∙ (ap (λ (w : CExpr). fewer.moved_pointer at x (is_unsigned y) a b w) (c.in_ok-back.ensures s x stands hx)
    ∙ ap (λ (w : Bool). if w then helper_call at (codes "pointer - pointer") (a ∷ b ∷ fewer.words_in s.tags x ∷ []) else fewer.moved_pointer at x (is_unsigned y) a b (fewer.words_back s.tags x)) (sym c.if-is_pointer.false ∙ c.is_pointer.ensures y hy))) (c.moved_pointer.ensures s x stands hx)
