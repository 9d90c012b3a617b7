use Rattle.std.proofs.Common.{Some, subst}
use Rattle.c_types.specs.Scope as scope
use Rattle.c_scopes.specs.declared.entity.Entity.{Entity}
use Rattle.c_operands.specs.Scoped.{IsEntityOrNone}
use Rattle.c_operands.proofs.NameLemmas.{object_is, routine_is, built_in_is, printf_is, none_is}
use Rattle.c_fewer_expressions.proofs.NamedLemmas.{printf_named, object_named, routine_named, nothing_named}
use Rattle.c_fewer_expressions.proofs.names.by_name.Goals as goal

pub returns-in-Some-Printf : goal.returns-in-Some-Printf
returns-in-Some-Printf c = λ s pos stands.
    printf_named s pos c.args.name.now (printf_is c.args.types.now (scope.entity_of s c.args.name.now) (subst (λ (e : Entity). IsEntityOrNone c.args.types.now (Some e) (scope.entity_of s c.args.name.now)) c.in-Some-Printf.field-0-is (c.in-Some-Printf.ensures s stands)))

pub returns-in-Some-BuiltIn : goal.returns-in-Some-BuiltIn
returns-in-Some-BuiltIn c = λ s pos stands.
    let p = built_in_is c.args.types.now c.in-Some-BuiltIn._ty (scope.entity_of s c.args.name.now) (subst (λ (e : Entity). IsEntityOrNone c.args.types.now (Some e) (scope.entity_of s c.args.name.now)) c.in-Some-BuiltIn.field-0-is (c.in-Some-BuiltIn.ensures s stands)) in
    c.built_in.ensures s p.0 pos p.1

pub returns-in-Some-Object : goal.returns-in-Some-Object
returns-in-Some-Object c = λ s pos stands.
    let p = object_is c.args.types.now c.in-Some-Object._ty (scope.entity_of s c.args.name.now) (subst (λ (e : Entity). IsEntityOrNone c.args.types.now (Some e) (scope.entity_of s c.args.name.now)) c.in-Some-Object.field-0-is (c.in-Some-Object.ensures s stands)) in
    object_named s pos c.args.name.now p.0 p.1

pub returns-in-Some-Routine : goal.returns-in-Some-Routine
returns-in-Some-Routine c = λ s pos stands.
    let p = routine_is c.args.types.now c.in-Some-Routine._ty c.in-Some-Routine._begun (scope.entity_of s c.args.name.now) (subst (λ (e : Entity). IsEntityOrNone c.args.types.now (Some e) (scope.entity_of s c.args.name.now)) c.in-Some-Routine.field-0-is (c.in-Some-Routine.ensures s stands)) in
    routine_named s pos c.args.name.now p.0 c.in-Some-Routine._begun p.1

pub returns-in-None : goal.returns-in-None
returns-in-None c = λ s pos stands.
    nothing_named s pos c.args.name.now (none_is c.args.types.now (scope.entity_of s c.args.name.now) (c.in-None.ensures s stands))
