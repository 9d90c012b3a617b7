use Rattle.std.proofs.Common.{◌≡◌, [], ◌∷◌, Option, sym, ap, subst, ◌∙◌}
use Rattle.std.specs.Prelude.{Result, IfOk}
use Rattle.std.specs.Result.{result_err}
use Rattle.c_syntax.specs.View.{expr_of}
use Rattle.c_types.specs.declared.fault.TypeFault.{TypeFault}
use Rattle.c_types.specs.declared.fault.TypeFault.TheVariants as fault
use Rattle.c_types.specs.Known.{OneType}
use Rattle.c_types.specs.Refusals.{Judged}
use Rattle.c_types.specs.Operands as plain
use Rattle.c_types.specs.Expressions.{judged}
use Rattle.c_operands.specs.declared.operand.Operand.{Operand}
use Rattle.c_operands.specs.Seen.{IsOperand, IsJudged}
use Rattle.c_forms.proofs.PartLemmas.{ok_is, err_is}
use Rattle.c_conditions.proofs.VerdictLemmas.{keeping_refused, returned}
use Rattle.c_conditions.proofs.conditions.judge_result.Goals as goal

pub result_fault-requires-clause-value : goal.result_fault-requires-clause-value
result_fault-requires-clause-value c =
    let s = c.requires.fits.0 in
    let table = c.judge.new.types in
    let p = judged s (expr_of c.args.e.now) in
    let k = ok_is (IsOperand table) c.in-Ok.a p (subst (λ (r : Result Operand TypeFault). IsJudged (IsOperand table) r p) c.in-Ok.is (c.in_ok-value.ensures.judged s c.requires.fits.1)) in
    (k.0.ty, k.2.ty)

pub result_fault-requires-clause-ty : goal.result_fault-requires-clause-ty
result_fault-requires-clause-ty c = (c.requires.ty.0, c.in_ok-value.ensures.grows _ _ c.requires.ty.1)

pub returns-in-Ok-clause-judged : goal.returns-in-Ok-clause-judged
returns-in-Ok-clause-judged c = λ s t fits h.
    let table = c.judge.new.types in
    let p = judged s (expr_of c.args.e.now) in
    let k = ok_is (IsOperand table) c.in-Ok.a p (subst (λ (r : Result Operand TypeFault). IsJudged (IsOperand table) r p) c.in-Ok.is (c.in_ok-value.ensures.judged s fits)) in
    let rules = (plain.converts k.0 t, fault.Mismatch c.args.at) ∷ [] in
    let told = c.result_fault.ensures.told k.0 t k.2 (c.in_ok-value.ensures.grows c.args.ty (OneType t) h) in
    subst (λ (o : Option TypeFault). IfOk c.result_fault.result (λ r. r ≡ o)) (sym (ap (λ (q : Judged plain.Operand). result_err (returned s c.args.at t q)) k.1 ∙ keeping_refused rules s)) told

pub returns-in-Err-clause-judged : goal.returns-in-Err-clause-judged
returns-in-Err-clause-judged c = λ s t fits h.
    let table = c.judge.new.types in
    let p = judged s (expr_of c.args.e.now) in
    let e = err_is (IsOperand table) c.in-Err.fault p (subst (λ (r : Result Operand TypeFault). IsJudged (IsOperand table) r p) c.in-Err.is (c.in_ok-value.ensures.judged s fits)) in
    sym (ap (λ (q : Judged plain.Operand). result_err (returned s c.args.at t q)) e)
