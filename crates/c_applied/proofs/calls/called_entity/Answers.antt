use Rattle.std.proofs.Common.{◌≡◌, ℕ, ◌+◌, ◌++◌, Bool, true, false, not, ◌||◌, List, [], ◌∷◌, length, refl, sym, ap, subst, ◌∙◌, append_assoc, append-nil, arith, if◌then◌else◌}
use Rattle.std.specs.Prelude.{Option, Some, None, OnOk, IfOk}
use Rattle.c_syntax.specs.Plain as tree
use Rattle.c_types.specs.Scope.{entity_of}
use Rattle.c_scopes.specs.declared.entity.Entity.{Entity}
use Rattle.c_operands.specs.Scoped.{IsEntityOrNone}
use Rattle.c_applied.specs.Calls.{IsCalled}
use Rattle.c_scopes.specs.declared.entity.Entity.TheVariants as entity
use Rattle.c_applied.proofs.CalledLemmas.{object_called, nothing_called, routine_called, built_in_called, format_called}
use Rattle.c_applied.proofs.calls.called_entity.Goals as goal

pub returns-in-Object : goal.returns-in-Object
returns-in-Object c = λ out w env at is h e.
    let s = env.scope in
    let name = c.args.name.now in
    let found = λ (x : Option Entity) (same : c.args.entity ≡ x). subst (λ (o : Option Entity). IsEntityOrNone out.types o (entity_of s name)) same e in
    object_called out.types c.in-Object._ty at s name h (found (Some (entity.Object c.in-Object._ty)) (c.in-Some.is ∙ ap Some c.in-Object.is))

pub returns-in-Routine : goal.returns-in-Routine
returns-in-Routine c = λ out w env at is h e.
    let s = env.scope in
    let name = c.args.name.now in
    let found = λ (x : Option Entity) (same : c.args.entity ≡ x). subst (λ (o : Option Entity). IsEntityOrNone out.types o (entity_of s name)) same e in
    routine_called out.types c.in-Routine._ty c.in-Routine._begun c.entry_of.result at w s name h (found (Some (entity.Routine c.in-Routine._ty c.in-Routine._begun)) (c.in-Some.is ∙ ap Some c.in-Routine.is)) (c.entry_of.ensures out w env is)

pub returns-in-BuiltIn : goal.returns-in-BuiltIn
returns-in-BuiltIn c = λ out w env at is h e.
    let s = env.scope in
    let name = c.args.name.now in
    let found = λ (x : Option Entity) (same : c.args.entity ≡ x). subst (λ (o : Option Entity). IsEntityOrNone out.types o (entity_of s name)) same e in
    built_in_called out.types c.in-BuiltIn._ty at s name h (found (Some (entity.BuiltIn c.in-BuiltIn._ty)) (c.in-Some.is ∙ ap Some c.in-BuiltIn.is))

pub returns-in-Printf : goal.returns-in-Printf
returns-in-Printf c = λ out w env at is h e.
    let s = env.scope in
    let name = c.args.name.now in
    let found = λ (x : Option Entity) (same : c.args.entity ≡ x). subst (λ (o : Option Entity). IsEntityOrNone out.types o (entity_of s name)) same e in
    format_called out.types at s name h (found (Some (entity.Printf)) (c.in-Some.is ∙ ap Some c.in-Printf.is))

pub returns-in-None : goal.returns-in-None
returns-in-None c = λ out w env at is h e.
    let s = env.scope in
    let name = c.args.name.now in
    let found = λ (x : Option Entity) (same : c.args.entity ≡ x). subst (λ (o : Option Entity). IsEntityOrNone out.types o (entity_of s name)) same e in
    nothing_called out.types at s name h (found None c.in-None.is)
