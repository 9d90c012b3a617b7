-- What a name is called as, by what it stands for.
use Rattle.std.proofs.Common.{◌≡◌, ℕ, Bool, true, false, List, refl, sym, ap, subst, ◌∙◌, if◌then◌else◌}
use Rattle.std.specs.Prelude.{Option, Some, None}
use Rattle.c_syntax.specs.Plain as tree
use Rattle.c_syntax.specs.Plain.{CExpr}
use Rattle.c_types.specs.Types.{CType, decayed}
use Rattle.c_types.specs.Scope as scope
use Rattle.c_types.specs.Scope.{Scope, entity_of}
use Rattle.c_eval.specs.Environment.{named_callee, parameters_of, function_parameters, value_type_in, callee_in, Through}
use Rattle.c_types.specs.Types.{NoType}
use Rattle.c_eval.specs.LiteralsIn.{is_printf, names_printf}
use Rattle.c_expressions.specs.Named.{name_in}
use Rattle.c_scopes.specs.declared.entity.Entity.{Entity}
use Rattle.c_scopes.specs.declared.entity.Entity.TheVariants as entity
use Rattle.c_types.specs.Table.{Table}
use Rattle.c_operands.specs.Scoped.{IsEntityOrNone}
use Rattle.c_lowered.specs.Locations.{Linking}
use Rattle.c_lowered.specs.Counts.{is_known_to_helpers}
use Rattle.c_lowered.specs.Expressions.{known_name}
use Rattle.c_counted.specs.Numbers.{IsNumber}
use Rattle.c_applied.specs.Calls.{IsThrough, IsRoutine, IsBuiltIn, IsFormat}
use Rattle.c_applied.proofs.PieceLemmas.{printf_unnamed, unknown_unnamed}

unknown_name : (at : ℕ) (name : List ℕ) → is_known_to_helpers name ≡ false → known_name (tree.Var at name) ≡ None
unknown_name at name h = ap (λ (b : Bool). if b then Some name else None) h

object_of : (table : Table) (n : ℕ) (o : Option scope.Entity) → IsEntityOrNone table (Some (entity.Object n)) o → (t : CType) × (o ≡ Some (scope.Object t))
object_of table n (Some (scope.Object t)) h = (t, refl)
object_of table n (Some (scope.Routine t b)) h = absurd h
object_of table n (Some (scope.BuiltIn t)) h = absurd h
object_of table n (Some scope.Printf) h = absurd h
object_of table n None h = absurd h

routine_of : (table : Table) (n : ℕ) (k : Bool) (o : Option scope.Entity) → IsEntityOrNone table (Some (entity.Routine n k)) o → (t : CType) × (b : Bool) × (o ≡ Some (scope.Routine t b))
routine_of table n k (Some (scope.Routine t b)) h = (t, b, refl)
routine_of table n k (Some (scope.Object t)) h = absurd h
routine_of table n k (Some (scope.BuiltIn t)) h = absurd h
routine_of table n k (Some scope.Printf) h = absurd h
routine_of table n k None h = absurd h

built_in_of : (table : Table) (n : ℕ) (o : Option scope.Entity) → IsEntityOrNone table (Some (entity.BuiltIn n)) o → (t : CType) × (o ≡ Some (scope.BuiltIn t))
built_in_of table n (Some (scope.BuiltIn t)) h = (t, refl)
built_in_of table n (Some (scope.Object t)) h = absurd h
built_in_of table n (Some (scope.Routine t b)) h = absurd h
built_in_of table n (Some scope.Printf) h = absurd h
built_in_of table n None h = absurd h

printf_of : (table : Table) (o : Option scope.Entity) → IsEntityOrNone table (Some entity.Printf) o → o ≡ Some scope.Printf
printf_of table (Some scope.Printf) h = refl
printf_of table (Some (scope.Object t)) h = absurd h
printf_of table (Some (scope.Routine t b)) h = absurd h
printf_of table (Some (scope.BuiltIn t)) h = absurd h
printf_of table None h = absurd h

none_of : (table : Table) (o : Option scope.Entity) → IsEntityOrNone table None o → o ≡ None
none_of table None h = refl
none_of table (Some e) h = absurd h

pub object_called : (table : Table) (n at : ℕ) (s : Scope) (name : List ℕ) → is_known_to_helpers name ≡ false → IsEntityOrNone table (Some (entity.Object n)) (entity_of s name) → IsThrough s (tree.Var at name)
object_called table n at s name h e =
    let o = object_of table n (entity_of s name) e in
    record { params = parameters_of (decayed o.0); unknown = unknown_name at name h; callee = ap (named_callee name) o.1; printed = ap is_printf o.1 }

pub nothing_called : (table : Table) (at : ℕ) (s : Scope) (name : List ℕ) → is_known_to_helpers name ≡ false → IsEntityOrNone table None (entity_of s name) → IsThrough s (tree.Var at name)
nothing_called table at s name h e =
    let o = none_of table (entity_of s name) e in
    record { params = NoType; unknown = unknown_name at name h; callee = ap (named_callee name) o; printed = ap is_printf o }

pub routine_called : (table : Table) (n : ℕ) (k : Bool) (entry at : ℕ) (w : Linking) (s : Scope) (name : List ℕ) → is_known_to_helpers name ≡ false → IsEntityOrNone table (Some (entity.Routine n k)) (entity_of s name) → IsNumber entry (w.entry name) → IsRoutine entry w s (tree.Var at name)
routine_called table n k entry at w s name h e is =
    let o = routine_of table n k (entity_of s name) e in
    record {
      name = name;
      params = function_parameters o.0;
      named = record { at = at; is = refl; unknown = h; callee = ap (named_callee name) o.2 };
      entry = is;
      printed = ap is_printf o.2;
    }

pub built_in_called : (table : Table) (n at : ℕ) (s : Scope) (name : List ℕ) → is_known_to_helpers name ≡ false → IsEntityOrNone table (Some (entity.BuiltIn n)) (entity_of s name) → IsBuiltIn name s (tree.Var at name)
built_in_called table n at s name h e =
    let o = built_in_of table n (entity_of s name) e in
    record { params = function_parameters o.0; named = record { at = at; is = refl; unknown = h; callee = ap (named_callee name) o.1 } }

pub format_called : (table : Table) (at : ℕ) (s : Scope) (name : List ℕ) → is_known_to_helpers name ≡ false → IsEntityOrNone table (Some entity.Printf) (entity_of s name) → IsFormat s (tree.Var at name)
format_called table at s name h e =
    record { name = name; named = record { at = at; is = refl; unknown = h; callee = ap (named_callee name) (printf_of table (entity_of s name) e) } }

unnamed_callee : (s : Scope) (e : CExpr) → None ≡ name_in e → callee_in s e ≡ Through (parameters_of (value_type_in s e))
unnamed_callee s (tree.Var pos name) h = absurd cc
unnamed_callee s e h = refl

-- what is no name is called through its value
pub unnamed_called : (s : Scope) (e : CExpr) → None ≡ name_in e → IsThrough s e
unnamed_called s e h = record { params = parameters_of (value_type_in s e); unknown = unknown_unnamed e h; callee = unnamed_callee s e h; printed = printf_unnamed s e h }
