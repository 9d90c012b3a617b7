use Rattle.std.proofs.Common.{sym, subst, ap}
use Rattle.std.specs.Prelude.{Result, Ok, Err}
use Rattle.std.proofs.lemmas.Option.{slice_get_within}
use Rattle.c_types.specs.declared.fault.TypeFault.{TypeFault}
use Rattle.c_eval.specs.Environment.{operand_type}
use Rattle.c_types.specs.Known.{OneType}
use Rattle.c_types.specs.Table.{known}
use Rattle.c_operands.specs.declared.operand.Operand.{Operand}
use Rattle.c_operands.specs.Classes.{class_of}
use Rattle.c_operands.specs.Seen.{IsOperand, IsJudged}
use Rattle.c_addressing.proofs.ClassLemmas.{judged_type, judged_void}
use Rattle.c_addressing.proofs.typed.class_of_judged.Goals as goal

pub class_of-requires : goal.class_of-requires
class_of-requires c =
    let table = c.args.types.now in
    let p = c.requires.0 in
    slice_get_within (known table) c.in-Ok.x.ty (OneType (operand_type p)) (judged_type table c.in-Ok.x p (subst (λ (j : Result Operand TypeFault). IsJudged (IsOperand table) j p) c.in-Ok.is c.requires.1))

pub returns-in-Ok : goal.returns-in-Ok
returns-in-Ok c = λ p h.
    let table = c.args.types.now in
    c.class_of.ensures (operand_type p) (judged_type table c.in-Ok.x p (subst (λ (j : Result Operand TypeFault). IsJudged (IsOperand table) j p) c.in-Ok.is h))

pub returns-in-Err : goal.returns-in-Err
returns-in-Err c = λ p h.
    let table = c.args.types.now in
    ap class_of (sym (judged_void table c.in-Err.field-0 p (subst (λ (j : Result Operand TypeFault). IsJudged (IsOperand table) j p) c.in-Err.is h)))
