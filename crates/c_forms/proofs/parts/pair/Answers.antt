use Rattle.std.proofs.Common.{sym, subst}
use Rattle.std.specs.Prelude.{Result, Ok}
use Rattle.c_types.specs.declared.fault.TypeFault.{TypeFault}
use Rattle.c_types.specs.Refusals.{Judged}
use Rattle.c_types.specs.Operands as plain
use Rattle.c_operands.specs.declared.operand.Operand.{Operand}
use Rattle.c_operands.specs.Seen.{IsOperand, IsJudged}
use Rattle.c_forms.specs.Forms.{IsPair}
use Rattle.c_forms.proofs.PartLemmas.{ok_is, err_is, told_first, told_second, both_ok}
use Rattle.c_forms.proofs.parts.pair.Goals as goal

abbrev joined : plain.Operand → plain.Operand → Judged (plain.Operand × plain.Operand)
joined x y = Ok (x, y)

pub returns-in-Ok-b : goal.returns-in-Ok-b
returns-in-Ok-b c = λ table p q h k.
    let l = ok_is (IsOperand table) c.in-Ok.x p (subst (λ (j : Result Operand TypeFault). IsJudged (IsOperand table) j p) c.in-Ok.is h) in
    let r = ok_is (IsOperand table) c.in-Ok-b.y q (subst (λ (j : Result Operand TypeFault). IsJudged (IsOperand table) j q) c.in-Ok-b.is k) in
    subst (λ (m : Judged (plain.Operand × plain.Operand)). IsJudged (IsPair table) (Ok (c.in-Ok.x, c.in-Ok-b.y)) m)
    (sym (both_ok l.0 r.0 p q joined l.1 r.1)) (l.2, r.2)

pub returns-in-Err-b : goal.returns-in-Err-b
returns-in-Err-b c = λ table p q h k.
    let l = ok_is (IsOperand table) c.in-Ok.x p (subst (λ (j : Result Operand TypeFault). IsJudged (IsOperand table) j p) c.in-Ok.is h) in
    let e = err_is (IsOperand table) c.in-Err-b.fault q (subst (λ (j : Result Operand TypeFault). IsJudged (IsOperand table) j q) c.in-Err-b.is k) in
    told_second (IsPair table) c.in-Err-b.fault l.0 p q joined l.1 e

pub returns-in-Err : goal.returns-in-Err
returns-in-Err c = λ table p q h k.
    let e = err_is (IsOperand table) c.in-Err.fault p (subst (λ (j : Result Operand TypeFault). IsJudged (IsOperand table) j p) c.in-Err.is h) in
    told_first (IsOperand table) (IsPair table) c.in-Err.fault c.least_of.result c.err.result c.args.b p q joined e k c.err.ensures.value c.least_of.ensures
