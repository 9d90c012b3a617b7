use Rattle.std.proofs.Common.{sym, subst}
use Rattle.std.specs.Prelude.{Result, IfOk}
use Rattle.c_types.specs.declared.fault.TypeFault.{TypeFault}
use Rattle.c_types.specs.Refusals.{Judged}
use Rattle.c_types.specs.Operands as plain
use Rattle.c_operands.specs.declared.operand.Operand.{Operand}
use Rattle.c_operands.specs.Seen.{IsOperand, IsJudged}
use Rattle.c_forms.specs.Forms.{two_operand}
use Rattle.c_forms.proofs.PartLemmas.{ok_is, err_is, told_first, told_second, both_ok}
use Rattle.c_forms.proofs.parts.after_two.Goals as goal

pub two-requires-clause-left : goal.two-requires-clause-left
two-requires-clause-left c =
    let table = c.args.types.now in
    let r = c.requires.left in
    let k = ok_is (IsOperand table) c.in-Ok.x r.0 (subst (λ (j : Result Operand TypeFault). IsJudged (IsOperand table) j r.0) c.in-Ok.is r.1) in
    (k.0.ty, k.2.ty)

pub two-requires-clause-right : goal.two-requires-clause-right
two-requires-clause-right c =
    let table = c.args.types.now in
    let r = c.requires.right in
    let k = ok_is (IsOperand table) c.in-Ok-b.y r.0 (subst (λ (j : Result Operand TypeFault). IsJudged (IsOperand table) j r.0) c.in-Ok-b.is r.1) in
    (k.0.ty, k.2.ty)

pub returns-in-Ok-b-clause-judged : goal.returns-in-Ok-b-clause-judged
returns-in-Ok-b-clause-judged c = λ p q tags h k all.
    let table = c.args.types.now in
    let l = ok_is (IsOperand table) c.in-Ok.x p (subst (λ (j : Result Operand TypeFault). IsJudged (IsOperand table) j p) c.in-Ok.is h) in
    let r = ok_is (IsOperand table) c.in-Ok-b.y q (subst (λ (j : Result Operand TypeFault). IsJudged (IsOperand table) j q) c.in-Ok-b.is k) in
    subst (λ (m : Judged plain.Operand). IfOk c.two.result (λ j. IsJudged (IsOperand c.two.new.types) j m))
    (sym (both_ok l.0 r.0 p q (λ x y. two_operand tags c.args.at c.args.form x y) l.1 r.1))
    (c.two.ensures.judged l.0 r.0 tags l.2 r.2 all)

pub returns-in-Err-b-clause-judged : goal.returns-in-Err-b-clause-judged
returns-in-Err-b-clause-judged c = λ p q tags h k all.
    let table = c.args.types.now in
    let l = ok_is (IsOperand table) c.in-Ok.x p (subst (λ (j : Result Operand TypeFault). IsJudged (IsOperand table) j p) c.in-Ok.is h) in
    let e = err_is (IsOperand table) c.in-Err-b.fault q (subst (λ (j : Result Operand TypeFault). IsJudged (IsOperand table) j q) c.in-Err-b.is k) in
    told_second (IsOperand table) c.in-Err-b.fault l.0 p q (λ x y. two_operand tags c.args.at c.args.form x y) l.1 e

pub returns-in-Err-clause-judged : goal.returns-in-Err-clause-judged
returns-in-Err-clause-judged c = λ p q tags h k all.
    let table = c.args.types.now in
    let e = err_is (IsOperand table) c.in-Err.fault p (subst (λ (j : Result Operand TypeFault). IsJudged (IsOperand table) j p) c.in-Err.is h) in
    told_first (IsOperand table) (IsOperand table) c.in-Err.fault c.least_of.result c.err.result c.args.b p q (λ x y. two_operand tags c.args.at c.args.form x y) e k c.err.ensures.value c.least_of.ensures
