use Rattle.std.proofs.Common.{Some, sym, ap, subst}
use Rattle.c_types.specs.Scope.{is_function}
use Rattle.c_scopes.specs.declared.entity.Entity.{Entity}
use Rattle.c_operands.specs.Scoped.{IsEntityOrNone}
use Rattle.c_operands.proofs.NameLemmas.{object_is, routine_is, built_in_is, printf_is}
use Rattle.c_operands.proofs.uses.is_function.Goals as goal

pub returns-in-Object : goal.returns-in-Object
returns-in-Object c = λ table o h.
    let p = object_is table c.in-Object._ty o (subst (λ (e : Entity). IsEntityOrNone table (Some e) o) c.in-Object.is h) in
    sym (ap is_function p.1)

pub returns-in-Routine : goal.returns-in-Routine
returns-in-Routine c = λ table o h.
    let p = routine_is table c.in-Routine._ty c.in-Routine._begun o (subst (λ (e : Entity). IsEntityOrNone table (Some e) o) c.in-Routine.is h) in
    sym (ap is_function p.1)

pub returns-in-BuiltIn : goal.returns-in-BuiltIn
returns-in-BuiltIn c = λ table o h.
    let p = built_in_is table c.in-BuiltIn._ty o (subst (λ (e : Entity). IsEntityOrNone table (Some e) o) c.in-BuiltIn.is h) in
    sym (ap is_function p.1)

pub returns-in-Printf : goal.returns-in-Printf
returns-in-Printf c = λ table o h.
    sym (ap is_function (printf_is table o (subst (λ (e : Entity). IsEntityOrNone table (Some e) o) c.in-Printf.is h)))
