use Rattle.std.proofs.Common.{refl, sym, subst}
use Rattle.std.specs.Prelude.{Result, Err, IfOk}
use Rattle.c_types.specs.declared.fault.TypeFault.{TypeFault}
use Rattle.c_types.specs.Refusals.{Judged, after}
use Rattle.c_types.specs.Operands as plain
use Rattle.c_operands.specs.declared.operand.Operand.{Operand}
use Rattle.c_operands.specs.Seen.{IsOperand, IsJudged}
use Rattle.c_forms.specs.Forms.{one_operand}
use Rattle.c_forms.proofs.PartLemmas.{ok_is, err_is}
use Rattle.c_forms.proofs.parts.after_one.Goals as goal

pub one-requires : goal.one-requires
one-requires c =
    let table = c.args.types.now in
    let k = ok_is (IsOperand table) c.in-Ok.x c.requires.0 (subst (λ (r : Result Operand TypeFault). IsJudged (IsOperand table) r c.requires.0) c.in-Ok.is c.requires.1) in
    (k.0.ty, k.2.ty)

pub returns-in-Ok-clause-judged : goal.returns-in-Ok-clause-judged
returns-in-Ok-clause-judged c = λ p tags h all.
    let table = c.args.types.now in
    let k = ok_is (IsOperand table) c.in-Ok.x p (subst (λ (r : Result Operand TypeFault). IsJudged (IsOperand table) r p) c.in-Ok.is h) in
    subst (λ (q : Judged plain.Operand). IfOk c.one.result (λ j. IsJudged (IsOperand c.one.new.types) j (after q (λ x. one_operand tags c.args.at c.args.form x)))) (sym k.1)
    (c.one.ensures.judged k.0 tags k.2 all)

pub returns-in-Err-clause-judged : goal.returns-in-Err-clause-judged
returns-in-Err-clause-judged c = λ p tags h all.
    let table = c.args.types.now in
    let e = err_is (IsOperand table) c.in-Err.fault p (subst (λ (r : Result Operand TypeFault). IsJudged (IsOperand table) r p) c.in-Err.is h) in
    subst (λ (q : Judged plain.Operand). IsJudged (IsOperand table) (Err c.in-Err.fault) (after q (λ x. one_operand tags c.args.at c.args.form x))) (sym e) refl
