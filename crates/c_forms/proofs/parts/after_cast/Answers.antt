use Rattle.std.proofs.Common.{ℕ, sym, subst}
use Rattle.std.specs.Prelude.{Result, IfOk}
use Rattle.c_types.specs.declared.fault.TypeFault.{TypeFault}
use Rattle.c_types.specs.Refusals.{Judged}
use Rattle.c_types.specs.Operands as plain
use Rattle.c_types.specs.Operands.{cast_operand}
use Rattle.c_types.specs.Table.{HasType}
use Rattle.c_operands.specs.declared.operand.Operand.{Operand}
use Rattle.c_operands.specs.Seen.{IsOperand, IsJudged}
use Rattle.c_forms.proofs.PartLemmas.{ok_is, err_is, told_first, told_second, both_ok}
use Rattle.c_forms.proofs.parts.after_cast.Goals as goal

pub cast-requires-clause-operand : goal.cast-requires-clause-operand
cast-requires-clause-operand c =
    let table = c.args.types.now in
    let r = c.requires.operand in
    let k = ok_is (IsOperand table) c.in-Ok-a.x r.0 (subst (λ (j : Result Operand TypeFault). IsJudged (IsOperand table) j r.0) c.in-Ok-a.is r.1) in
    (k.0.ty, k.2.ty)

pub cast-requires-clause-ty : goal.cast-requires-clause-ty
cast-requires-clause-ty c =
    let table = c.args.types.now in
    let r = c.requires.ty in
    let k = ok_is (HasType table) c.in-Ok.number r.0 (subst (λ (j : Result ℕ TypeFault). IsJudged (HasType table) j r.0) c.in-Ok.is r.1) in
    (k.0, k.2)

pub returns-in-Ok-a-clause-judged : goal.returns-in-Ok-a-clause-judged
returns-in-Ok-a-clause-judged c = λ p q h k.
    let table = c.args.types.now in
    let l = ok_is (HasType table) c.in-Ok.number p (subst (λ (j : Result ℕ TypeFault). IsJudged (HasType table) j p) c.in-Ok.is h) in
    let r = ok_is (IsOperand table) c.in-Ok-a.x q (subst (λ (j : Result Operand TypeFault). IsJudged (IsOperand table) j q) c.in-Ok-a.is k) in
    subst (λ (m : Judged plain.Operand). IfOk c.cast.result (λ j. IsJudged (IsOperand c.cast.new.types) j m))
    (sym (both_ok l.0 r.0 p q (λ t x. cast_operand c.args.at t x) l.1 r.1))
    (c.cast.ensures.judged r.0 l.0 r.2 l.2)

pub returns-in-Err-a-clause-judged : goal.returns-in-Err-a-clause-judged
returns-in-Err-a-clause-judged c = λ p q h k.
    let table = c.args.types.now in
    let l = ok_is (HasType table) c.in-Ok.number p (subst (λ (j : Result ℕ TypeFault). IsJudged (HasType table) j p) c.in-Ok.is h) in
    let e = err_is (IsOperand table) c.in-Err-a.fault q (subst (λ (j : Result Operand TypeFault). IsJudged (IsOperand table) j q) c.in-Err-a.is k) in
    told_second (IsOperand table) c.in-Err-a.fault l.0 p q (λ t x. cast_operand c.args.at t x) l.1 e

pub returns-in-Err-clause-judged : goal.returns-in-Err-clause-judged
returns-in-Err-clause-judged c = λ p q h k.
    let table = c.args.types.now in
    let e = err_is (HasType table) c.in-Err.fault p (subst (λ (j : Result ℕ TypeFault). IsJudged (HasType table) j p) c.in-Err.is h) in
    told_first (IsOperand table) (IsOperand table) c.in-Err.fault c.least_of.result c.err.result c.args.a p q (λ t x. cast_operand c.args.at t x) e k c.err.ensures.value c.least_of.ensures
