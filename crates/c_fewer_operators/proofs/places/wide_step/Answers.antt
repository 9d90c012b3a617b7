use Rattle.std.proofs.Common.{false, sym, ap, ◌∙◌}
use Rattle.c_syntax.specs.Plain.{CExpr}
use Rattle.c_syntax.specs.View.{expr_of}
use Rattle.c_syntax.specs.declared.tree.StepOp.{StepOp}
use Rattle.c_helpers.specs.Terms.{number}
use Rattle.c_helpers.specs.Fewer as fewer
use Rattle.c_fewer_operators.specs.Parts as parts
use Rattle.c_fewer_operators.proofs.TreeLemmas.{made}
use Rattle.c_fewer_operators.proofs.places.wide_step.Goals as goal

pub returns-in_ok-words-in-PreInc : goal.returns-in_ok-words-in-PreInc
returns-in_ok-words-in-PreInc c = λ s t stands has.
    let at = c.args.at in
    let a = expr_of c.args.a in
    let words = expr_of c.in_ok-words-in-PreInc.words in
    made c.moved_place.result (fewer.moved_place at t false a (expr_of c.number.result) words) (fewer.wide_step s.tags at c.args.op t a)
    (ap (λ (n : CExpr). fewer.moved_place at t false a n words) c.number.ensures
    ∙ (ap (λ (w : CExpr). fewer.moved_place at t false a (number 1) w) (c.in_ok-words-in-PreInc.ensures s t stands has)
    ∙ ap (λ (o : StepOp). fewer.wide_step s.tags at o t a) (sym c.in-PreInc.is))) (c.moved_place.ensures s t stands has)

pub returns-in_ok-words-in-PreDec : goal.returns-in_ok-words-in-PreDec
returns-in_ok-words-in-PreDec c = λ s t stands has.
    let at = c.args.at in
    let a = expr_of c.args.a in
    let words = expr_of c.in_ok-words-in-PreDec.words in
    made c.moved_place-in-PreDec.result (fewer.moved_place at t false a (expr_of c.number-in-PreDec.result) words) (fewer.wide_step s.tags at c.args.op t a)
    (ap (λ (n : CExpr). fewer.moved_place at t false a n words) c.number-in-PreDec.ensures
    ∙ (ap (λ (w : CExpr). fewer.moved_place at t false a (number 1) w) (c.in_ok-words-in-PreDec.ensures s t stands has)
    ∙ ap (λ (o : StepOp). fewer.wide_step s.tags at o t a) (sym c.in-PreDec.is))) (c.moved_place-in-PreDec.ensures s t stands has)

pub returns-in_ok-words-in-PostInc : goal.returns-in_ok-words-in-PostInc
returns-in_ok-words-in-PostInc c = λ s t stands has.
    let at = c.args.at in
    let a = expr_of c.args.a in
    let words = expr_of c.in_ok-words-in-PostInc.words in
    made c.stepped_place.result (parts.stepped_place at t a words) (fewer.wide_step s.tags at c.args.op t a)
    (ap (parts.stepped_place at t a) (c.in_ok-words-in-PostInc.ensures s t stands has)
    ∙ ap (λ (o : StepOp). fewer.wide_step s.tags at o t a) (sym c.in-PostInc.is)) (c.stepped_place.ensures s t stands has)

pub returns-in_ok-words-in-PostDec : goal.returns-in_ok-words-in-PostDec
returns-in_ok-words-in-PostDec c = λ s t stands has.
    let at = c.args.at in
    let a = expr_of c.args.a in
    let words = expr_of c.in_ok-words-in-PostDec.words in
    made c.stepped_place-in-PostDec.result (parts.stepped_place at t a words) (fewer.wide_step s.tags at c.args.op t a)
    (ap (parts.stepped_place at t a) (c.in_ok-words-in-PostDec.ensures s t stands has)
    ∙ ap (λ (o : StepOp). fewer.wide_step s.tags at o t a) (sym c.in-PostDec.is)) (c.stepped_place-in-PostDec.ensures s t stands has)
