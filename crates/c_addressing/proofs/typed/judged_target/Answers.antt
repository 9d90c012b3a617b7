use Rattle.std.proofs.Common.{sym, subst, ap}
use Rattle.std.specs.Prelude.{Result, Ok, Err, None}
use Rattle.c_types.specs.declared.fault.TypeFault.{TypeFault}
use Rattle.c_types.specs.Types.{CType, decayed}
use Rattle.c_eval.specs.Environment.{operand_type}
use Rattle.c_operands.specs.declared.operand.Operand.{Operand}
use Rattle.c_operands.specs.Seen.{IsOperand, IsJudged}
use Rattle.c_addressing.specs.Classes.{AimsAt}
use Rattle.c_addressing.proofs.ClassLemmas.{judged_type, judged_void}
use Rattle.c_addressing.proofs.typed.judged_target.Goals as goal

pub target_type-requires : goal.target_type-requires
target_type-requires c =
    let table = c.args.types.now in
    let p = c.requires.0 in
    (operand_type p, judged_type table c.in-Ok.x p (subst (λ (j : Result Operand TypeFault). IsJudged (IsOperand table) j p) c.in-Ok.is c.requires.1))

pub returns-in-Ok : goal.returns-in-Ok
returns-in-Ok c = λ p h.
    let table = c.args.types.now in
    c.target_type.ensures (operand_type p) (judged_type table c.in-Ok.x p (subst (λ (j : Result Operand TypeFault). IsJudged (IsOperand table) j p) c.in-Ok.is h))

pub returns-in-Err : goal.returns-in-Err
returns-in-Err c = λ p h.
    let table = c.args.types.now in
    subst (λ (t : CType). AimsAt table None (decayed t)) (sym (judged_void table c.in-Err.field-0 p (subst (λ (j : Result Operand TypeFault). IsJudged (IsOperand table) j p) c.in-Err.is h))) tt
