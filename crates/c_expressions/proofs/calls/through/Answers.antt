use Rattle.std.proofs.Common.{refl, sym, subst}
use Rattle.std.specs.Prelude.{Result, Ok, Err}
use Rattle.c_types.specs.declared.fault.TypeFault.{TypeFault}
use Rattle.c_types.specs.Refusals.{Judged}
use Rattle.c_types.specs.Operands as plain
use Rattle.c_types.specs.Expressions.{through}
use Rattle.c_operands.specs.declared.operand.Operand.{Operand}
use Rattle.c_operands.specs.Seen.{IsOperand, IsJudged}
use Rattle.c_operands.specs.declared.arguments.Callee.TheVariants.{Through}
use Rattle.c_operands.specs.Arguments.{IsCallee}
use Rattle.c_forms.proofs.PartLemmas.{ok_is, err_is}
use Rattle.c_expressions.proofs.calls.through.Goals as goal

pub used_type-requires : goal.used_type-requires
used_type-requires c =
    let table = c.args.types.now in
    let k = ok_is (IsOperand table) c.in-Ok.x c.requires.0 (subst (λ (r : Result Operand TypeFault). IsJudged (IsOperand table) r c.requires.0) c.in-Ok.is c.requires.1) in
    (k.0.ty, k.2.ty)

pub returns-in_ok-ty-in-Ok-clause-judged : goal.returns-in_ok-ty-in-Ok-clause-judged
returns-in_ok-ty-in-Ok-clause-judged c = λ p h.
    let table = c.args.types.now in
    let new = c.used_type.new.types in
    let k = ok_is (IsOperand table) c.in-Ok.x p (subst (λ (r : Result Operand TypeFault). IsJudged (IsOperand table) r p) c.in-Ok.is h) in
    subst (λ (q : Judged plain.Operand). IsJudged (IsCallee new) (Ok (Through c.in_ok-ty-in-Ok.ty)) (through q)) (sym k.1)
    (c.in_ok-ty-in-Ok.ensures.used k.0.ty k.2.ty)

pub returns-in-Err-clause-judged : goal.returns-in-Err-clause-judged
returns-in-Err-clause-judged c = λ p h.
    let table = c.args.types.now in
    let e = err_is (IsOperand table) c.in-Err.fault p (subst (λ (r : Result Operand TypeFault). IsJudged (IsOperand table) r p) c.in-Err.is h) in
    subst (λ (q : Judged plain.Operand). IsJudged (IsCallee table) (Err c.in-Err.fault) (through q)) (sym e) refl
