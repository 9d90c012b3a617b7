-- Objects that are declared.
use Rattle.std.proofs.Common.{◌≡◌, ℕ, Bool, true, false, List, [], ◌∷◌, Option, Some, None, refl, sym, ap, subst, ◌∙◌, if◌then◌else◌}
use Rattle.std.specs.Prelude.{Result, Ok, Err, is_some, not}
use Rattle.std.specs.Option.{option_map_or}
use Rattle.std.specs.Result.{result_err}
use Rattle.c_syntax.specs.Words.{meaning}
use Rattle.c_types.specs.declared.fault.TypeFault.{TypeFault}
use Rattle.c_types.specs.declared.fault.TypeFault.TheVariants as fault
use Rattle.c_types.specs.Refusals.{Judged, Rule, after, keeping, broken}
use Rattle.c_types.specs.Scope as scope
use Rattle.c_types.specs.Scope.{Scope, is_declared_here}
use Rattle.c_types.specs.Declarations.{scope_or}
use Rattle.c_types.specs.Table.{Table}
use Rattle.c_scopes.specs.declared.entity.Entity.{Entity}
use Rattle.c_operands.specs.Scoped.{AreNames, IsEntityOrNone}
use Rattle.c_operands.proofs.NameLemmas.{found}
use Rattle.c_declared.specs.Told.{first_told}
use Rattle.c_declared.proofs.ToldLemmas.{after_refused}

-- a name is declared in the innermost block in both or in neither
same_there : (table : Table) (a : Option Entity) (b : Option scope.Entity) → IsEntityOrNone table a b → is_some a ≡ option_map_or (λ _. true) b false
same_there table (Some a) (Some b) h = refl
same_there table None None h = refl
same_there table (Some a) None h = absurd h
same_there table None (Some b) h = absurd h

pub new_as : (table : Table) (names : List (List ℕ × Entity)) (s : Scope) (name : List ℕ) (b : Bool) → AreNames table names s.block → b ≡ is_some (meaning names name) → not b ≡ not (is_declared_here s name)
new_as table names s name b are h = ap not (h ∙ same_there table (meaning names name) (meaning s.block name) (found table names s.block name are))

by_rules : (s inner : Scope) (o : Option TypeFault) → scope_or s (option_map_or (λ e. Err e) o (Ok inner)) ≡ (if is_some o then s else inner)
by_rules s inner None = refl
by_rules s inner (Some e) = refl

-- the scope behind a tree that gives one scope, if it isn't refused
pub scope_behind : {A : Type 0} (s inner : Scope) (p : Judged A) (rules : List Rule) → scope_or s (after p (λ _. keeping rules inner)) ≡ (if is_some (first_told (result_err p) (broken rules)) then s else inner)
scope_behind s inner (Ok a) rules = by_rules s inner (broken rules)
scope_behind s inner (Err e) rules = refl

-- the refusal of an object, by that of its first value and whether its name is new
pub object_told : {A : Type 0} (r parts own : Option TypeFault) (s inner : Scope) (name : List ℕ) (p : Judged A) (b : Bool) (at : ℕ) → r ≡ first_told parts own → parts ≡ result_err p
    → own ≡ broken ((b, fault.Twice at) ∷ []) → b ≡ not (is_declared_here s name) → r ≡ result_err (after p (λ _. keeping ((not (is_declared_here s name), fault.Twice at) ∷ []) inner))
object_told r parts own s inner name p b at h f g e =
    h ∙ (ap (λ (o : Option TypeFault). first_told o own) f
    ∙ (ap (λ (o : Option TypeFault). first_told (result_err p) o) (g ∙ ap (λ (x : Bool). broken ((x, fault.Twice at) ∷ [])) e)
    ∙ sym (after_refused p ((not (is_declared_here s name), fault.Twice at) ∷ []) (λ _. inner))))

-- the scope behind it
pub object_scope : {A : Type 0} (r : Option TypeFault) (s inner : Scope) (p : Judged A) (rules : List Rule) → r ≡ result_err (after p (λ _. keeping rules inner))
    → (if is_some r then s else inner) ≡ scope_or s (after p (λ _. keeping rules inner))
object_scope r s inner p rules h =
    ap (λ (o : Option TypeFault). if is_some o then s else inner) (h ∙ after_refused p rules (λ _. inner)) ∙ sym (scope_behind s inner p rules)
