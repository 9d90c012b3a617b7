use Rattle.std.proofs.Common.{◌∷◌, [], Bool, Option, Some, refl, sym, subst}
use Rattle.std.specs.Prelude.{IfOk, Ok, Err}
use Rattle.c_types.specs.declared.fault.TypeFault.TheVariants as fault
use Rattle.c_types.specs.Types as types
use Rattle.c_types.specs.Constants as constants
use Rattle.c_types.specs.Refusals.{keeping}
use Rattle.c_types.specs.Scope as scope
use Rattle.c_scopes.specs.declared.entity.Entity.{Entity}
use Rattle.c_operands.specs.Scoped.{IsEntityOrNone}
use Rattle.c_types.specs.Operands.{operand, Designator}
use Rattle.c_types.specs.Expressions as plain
use Rattle.c_operands.specs.Seen.{IsOperand, IsJudged}
use Rattle.c_operands.proofs.NameLemmas.{object_is, routine_is, built_in_is, printf_is, none_is}
use Rattle.c_operands.proofs.uses.named.Goals as goal

pub returns-in-Some-Object-clause-judged : goal.returns-in-Some-Object-clause-judged
returns-in-Some-Object-clause-judged c = λ s fits.
    let table = c.args.types.now in
    let name = c.args.name.now in
    let p = object_is table c.in-Some-Object.ty (scope.entity_of s name) (subst (λ (e : Entity). IsEntityOrNone c.args.types.now (Some e) (scope.entity_of s c.args.name.now)) c.in-Some-Object.field-0-is (c.in-Some-Object.ensures s fits)) in
    subst (λ (o : Option scope.Entity). IsJudged (IsOperand table) (Ok c.place_at.result) (plain.named s c.args.at name o)) (sym p.1)
    (c.place_at.ensures table p.0 p.2)

pub pointer_to-requires : goal.pointer_to-requires
pointer_to-requires c =
    let table = c.args.types.now in
    let s = c.requires.0 in
    let p = routine_is table c.in-Some-Routine.ty c.in-Some-Routine._begun (scope.entity_of s c.args.name.now) (subst (λ (e : Entity). IsEntityOrNone c.args.types.now (Some e) (scope.entity_of s c.args.name.now)) c.in-Some-Routine.field-0-is (c.in-Some-Routine.ensures s c.requires.1)) in
    (p.0, p.2)

pub returns-in-Some-Routine-clause-judged : goal.returns-in-Some-Routine-clause-judged
returns-in-Some-Routine-clause-judged c = λ s fits.
    let table = c.args.types.now in
    let name = c.args.name.now in
    let p = routine_is table c.in-Some-Routine.ty c.in-Some-Routine._begun (scope.entity_of s name) (subst (λ (e : Entity). IsEntityOrNone c.args.types.now (Some e) (scope.entity_of s c.args.name.now)) c.in-Some-Routine.field-0-is (c.in-Some-Routine.ensures s fits)) in
    subst (λ (o : Option scope.Entity). IfOk c.pointer_to.result (λ j. IsJudged (IsOperand c.pointer_to.new.types) j (plain.named s c.args.at name o))) (sym p.1)
    (subst (λ (b : Bool). IfOk c.pointer_to.result (λ j. IsJudged (IsOperand c.pointer_to.new.types) j (keeping ((b, fault.BadCall c.args.at) ∷ []) (operand c.args.at (types.Pointer p.0) Designator constants.NotConstant))))
    (c.is_defined-defined.ensures s fits) (c.pointer_to.ensures.judged p.0 p.2))

pub returns-in-Some-BuiltIn-clause-judged : goal.returns-in-Some-BuiltIn-clause-judged
returns-in-Some-BuiltIn-clause-judged c = λ s fits.
    let table = c.args.types.now in
    let name = c.args.name.now in
    let p = built_in_is table c.in-Some-BuiltIn._ty (scope.entity_of s name) (subst (λ (e : Entity). IsEntityOrNone c.args.types.now (Some e) (scope.entity_of s c.args.name.now)) c.in-Some-BuiltIn.field-0-is (c.in-Some-BuiltIn.ensures s fits)) in
    subst (λ (o : Option scope.Entity). IsJudged (IsOperand table) (Err (fault.BadCall c.args.at)) (plain.named s c.args.at name o)) (sym p.1) refl

pub returns-in-Some-Printf-clause-judged : goal.returns-in-Some-Printf-clause-judged
returns-in-Some-Printf-clause-judged c = λ s fits.
    let table = c.args.types.now in
    let name = c.args.name.now in
    subst (λ (o : Option scope.Entity). IsJudged (IsOperand table) (Err (fault.BadCall c.args.at)) (plain.named s c.args.at name o))
    (sym (printf_is table (scope.entity_of s name) (subst (λ (e : Entity). IsEntityOrNone c.args.types.now (Some e) (scope.entity_of s c.args.name.now)) c.in-Some-Printf.field-0-is (c.in-Some-Printf.ensures s fits)))) refl

pub returns-in-None-clause-judged : goal.returns-in-None-clause-judged
returns-in-None-clause-judged c = λ s fits.
    let table = c.args.types.now in
    let name = c.args.name.now in
    subst (λ (o : Option scope.Entity). IsJudged (IsOperand table) (Err (fault.Unknown c.args.at)) (plain.named s c.args.at name o))
    (sym (none_is table (scope.entity_of s name) (c.in-None.ensures s fits))) refl
