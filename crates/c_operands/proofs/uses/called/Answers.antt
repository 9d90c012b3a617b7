use Rattle.std.proofs.Common.{Option, Some, true, refl, sym, subst}
use Rattle.std.specs.Prelude.{Ok, Err}
use Rattle.c_types.specs.declared.fault.TypeFault.TheVariants as fault
use Rattle.c_types.specs.Scope as scope
use Rattle.c_scopes.specs.declared.entity.Entity.{Entity}
use Rattle.c_operands.specs.Scoped.{IsEntityOrNone}
use Rattle.c_types.specs.Expressions as plain
use Rattle.c_operands.specs.Seen.{IsJudged}
use Rattle.c_operands.specs.declared.arguments.Callee.TheVariants.{Direct, Format, Through}
use Rattle.c_operands.specs.Arguments.{IsCallee}
use Rattle.c_operands.proofs.NameLemmas.{object_is, routine_is, built_in_is, printf_is, none_is}
use Rattle.c_operands.proofs.uses.called.Goals as goal

pub used_type-requires : goal.used_type-requires
used_type-requires c =
    let s = c.requires.0 in
    let p = object_is c.args.types.now c.in-Some-Object.ty (scope.entity_of s c.args.name.now) (subst (λ (e : Entity). IsEntityOrNone c.args.types.now (Some e) (scope.entity_of s c.args.name.now)) c.in-Some-Object.field-0-is (c.in-Some-Object.ensures s c.requires.1)) in
    (p.0, p.2)

pub returns-in_ok-used-in-Some-Object-clause-judged : goal.returns-in_ok-used-in-Some-Object-clause-judged
returns-in_ok-used-in-Some-Object-clause-judged c = λ s fits.
    let table = c.args.types.now in
    let new = c.used_type.new.types in
    let name = c.args.name.now in
    let p = object_is table c.in-Some-Object.ty (scope.entity_of s name) (subst (λ (e : Entity). IsEntityOrNone c.args.types.now (Some e) (scope.entity_of s c.args.name.now)) c.in-Some-Object.field-0-is (c.in-Some-Object.ensures s fits)) in
    subst (λ (o : Option scope.Entity). IsJudged (IsCallee new) (Ok (Through c.in_ok-used-in-Some-Object.used)) (plain.named_callee s c.args.at name o)) (sym p.1)
    (c.in_ok-used-in-Some-Object.ensures.used p.0 p.2)

pub returns-in-Some-Routine-clause-judged : goal.returns-in-Some-Routine-clause-judged
returns-in-Some-Routine-clause-judged c = λ s fits.
    let table = c.args.types.now in
    let name = c.args.name.now in
    let p = routine_is table c.in-Some-Routine.ty c.in-Some-Routine._begun (scope.entity_of s name) (subst (λ (e : Entity). IsEntityOrNone c.args.types.now (Some e) (scope.entity_of s c.args.name.now)) c.in-Some-Routine.field-0-is (c.in-Some-Routine.ensures s fits)) in
    subst (λ (o : Option scope.Entity). IsJudged (IsCallee table) (Ok (Direct c.in-Some-Routine.ty c.is_defined-defined.result)) (plain.named_callee s c.args.at name o)) (sym p.1)
    (p.2, c.is_defined-defined.ensures s fits)

pub returns-in-Some-BuiltIn-clause-judged : goal.returns-in-Some-BuiltIn-clause-judged
returns-in-Some-BuiltIn-clause-judged c = λ s fits.
    let table = c.args.types.now in
    let name = c.args.name.now in
    let p = built_in_is table c.in-Some-BuiltIn.ty (scope.entity_of s name) (subst (λ (e : Entity). IsEntityOrNone c.args.types.now (Some e) (scope.entity_of s c.args.name.now)) c.in-Some-BuiltIn.field-0-is (c.in-Some-BuiltIn.ensures s fits)) in
    subst (λ (o : Option scope.Entity). IsJudged (IsCallee table) (Ok (Direct c.in-Some-BuiltIn.ty true)) (plain.named_callee s c.args.at name o)) (sym p.1)
    (p.2, refl)

pub returns-in-Some-Printf-clause-judged : goal.returns-in-Some-Printf-clause-judged
returns-in-Some-Printf-clause-judged c = λ s fits.
    let table = c.args.types.now in
    let name = c.args.name.now in
    subst (λ (o : Option scope.Entity). IsJudged (IsCallee table) (Ok Format) (plain.named_callee s c.args.at name o))
    (sym (printf_is table (scope.entity_of s name) (subst (λ (e : Entity). IsEntityOrNone c.args.types.now (Some e) (scope.entity_of s c.args.name.now)) c.in-Some-Printf.field-0-is (c.in-Some-Printf.ensures s fits)))) tt

pub returns-in-None-clause-judged : goal.returns-in-None-clause-judged
returns-in-None-clause-judged c = λ s fits.
    let table = c.args.types.now in
    let name = c.args.name.now in
    subst (λ (o : Option scope.Entity). IsJudged (IsCallee table) (Err (fault.Unknown c.args.at)) (plain.named_callee s c.args.at name o))
    (sym (none_is table (scope.entity_of s name) (c.in-None.ensures s fits))) refl
