use Rattle.std.proofs.Common.{refl, sym, subst}
use Rattle.std.specs.Prelude.{Result, Ok, Err}
use Rattle.c_syntax.specs.View.{expr_of}
use Rattle.c_types.specs.declared.fault.TypeFault.{TypeFault}
use Rattle.c_types.specs.Refusals.{Judged}
use Rattle.c_types.specs.Operands as plain
use Rattle.c_types.specs.Expressions.{judged}
use Rattle.c_types.specs.Statements.{condition_rules}
use Rattle.c_operands.specs.declared.operand.Operand.{Operand}
use Rattle.c_operands.specs.Seen.{IsOperand, IsJudged}
use Rattle.c_forms.proofs.PartLemmas.{ok_is, err_is}
use Rattle.c_conditions.specs.Told.{IsTested}
use Rattle.c_conditions.proofs.conditions.judge_condition.Goals as goal

pub condition_fault-requires : goal.condition_fault-requires
condition_fault-requires c =
    let s = c.requires.0 in
    let table = c.judge.new.types in
    let p = judged s (expr_of c.args.e.now) in
    let k = ok_is (IsOperand table) c.in-Ok.a p (subst (λ (r : Result Operand TypeFault). IsJudged (IsOperand table) r p) c.in-Ok.is (c.in_ok-value.ensures.judged s c.requires.1)) in
    (k.0.ty, k.2.ty)

pub returns-in_ok-own-in-Ok-clause-judged : goal.returns-in_ok-own-in-Ok-clause-judged
returns-in_ok-own-in-Ok-clause-judged c = λ s fits.
    let table = c.judge.new.types in
    let p = judged s (expr_of c.args.e.now) in
    let k = ok_is (IsOperand table) c.in-Ok.a p (subst (λ (r : Result Operand TypeFault). IsJudged (IsOperand table) r p) c.in-Ok.is (c.in_ok-value.ensures.judged s fits)) in
    subst (λ (q : Judged plain.Operand). IsTested condition_rules (Ok c.in_ok-own-in-Ok.own) q) (sym k.1) (c.in_ok-own-in-Ok.ensures.told k.0 k.2)

pub returns-in-Err-clause-judged : goal.returns-in-Err-clause-judged
returns-in-Err-clause-judged c = λ s fits.
    let table = c.judge.new.types in
    let p = judged s (expr_of c.args.e.now) in
    let e = err_is (IsOperand table) c.in-Err.fault p (subst (λ (r : Result Operand TypeFault). IsJudged (IsOperand table) r p) c.in-Err.is (c.in_ok-value.ensures.judged s fits)) in
    subst (λ (q : Judged plain.Operand). IsTested condition_rules (Err c.in-Err.fault) q) (sym e) refl
