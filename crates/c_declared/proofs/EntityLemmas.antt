-- Entities that are declared more than once.
use Rattle.std.proofs.Common.{◌≡◌, ℕ, Bool, true, false, ◌&&◌, ◌||◌, List, [], ◌∷◌, ◌++◌, Option, Some, None, refl, sym, ap, subst, ◌∙◌, if◌then◌else◌}
use Rattle.std.specs.Prelude.{is_some, not}
use Rattle.std.specs.Str.{bytes_eq}
use Rattle.c_syntax.specs.Words.{meaning}
use Rattle.c_scopes.specs.declared.entity.Entity.{Entity}
use Rattle.c_scopes.specs.declared.entity.Entity.TheVariants.{Routine, BuiltIn}
use Rattle.c_types.specs.Types.{CType, same_type}
use Rattle.c_types.specs.Units.{may_declare}
use Rattle.c_types.specs.Scope as scope
use Rattle.c_types.specs.Table.{Table, HasType}
use Rattle.c_operands.specs.Scoped.{AreNames, IsEntity, IsEntityOrNone}
use Rattle.c_operands.proofs.NameLemmas.{found}

-- a name that the innermost block declares means what it means there
pub here_first : (block outer : List (List ℕ × Entity)) (name : List ℕ) → is_some (meaning block name) ≡ true → meaning (block ++ outer) name ≡ meaning block name
here_first [] outer name h = absurd cc
here_first (p ∷ block) outer name h = by (bytes_eq name p.0) (here_first block outer name) h where
  by : (b : Bool) → (is_some (meaning block name) ≡ true → meaning (block ++ outer) name ≡ meaning block name)
      → is_some (if b then Some p.1 else meaning block name) ≡ true → (if b then Some p.1 else meaning (block ++ outer) name) ≡ (if b then Some p.1 else meaning block name)
  by true rest e = refl
  by false rest e = rest e

pub not_here : {X : Type 0} (o : Option X) → is_some o ≡ false → o ≡ None
not_here None h = refl
not_here (Some x) h = absurd cc

pub found_in_block : (table : Table) (block outer : List (List ℕ × Entity)) (others : scope.Names) (name : List ℕ) (r : Option Entity) → AreNames table block others
    → is_some (meaning block name) ≡ true → r ≡ meaning (block ++ outer) name → IsEntityOrNone table r (meaning others name)
found_in_block table block outer others name r are here is =
    subst (λ (o : Option Entity). IsEntityOrNone table o (meaning others name)) (sym (is ∙ here_first block outer name here)) (found table block others name are)

pub none_in_block : (table : Table) (block : List (List ℕ × Entity)) (others : scope.Names) (name : List ℕ) → AreNames table block others
    → is_some (meaning block name) ≡ false → IsEntityOrNone table None (meaning others name)
none_in_block table block others name are none =
    subst (λ (o : Option Entity). IsEntityOrNone table o (meaning others name)) (not_here (meaning block name) none) (found table block others name are)

-- ---- functions that are declared again

agree : (r same begun started defines : Bool) (t u : CType) → r ≡ (same && not (begun && defines)) → same ≡ same_type t u → begun ≡ started → r ≡ (same_type t u && not (started && defines))
agree r same begun started defines t u h e f = h ∙ (ap (λ (b : Bool). b && not (begun && defines)) e ∙ ap (λ (b : Bool). same_type t u && not (b && defines)) f)

pub routine_agrees : (table : Table) (n : ℕ) (begun : Bool) (e : scope.Entity) (t : CType) (defines same r : Bool) → IsEntity table (Routine n begun) e
    → ((u : CType) → HasType table n u → same ≡ same_type t u) → r ≡ (same && not (begun && defines)) → r ≡ may_declare (Some e) t defines
routine_agrees table n begun (scope.Routine u started) t defines same r is by h = agree r same begun started defines t u h (by u is.0) is.1
routine_agrees table n begun (scope.Object u) t defines same r is by h = absurd is
routine_agrees table n begun (scope.BuiltIn u) t defines same r is by h = absurd is
routine_agrees table n begun scope.Printf t defines same r is by h = absurd is

pub built_in_agrees : (table : Table) (n : ℕ) (e : scope.Entity) (t : CType) (defines same r : Bool) → IsEntity table (BuiltIn n) e
    → ((u : CType) → HasType table n u → same ≡ same_type t u) → r ≡ (same && not (true && defines)) → r ≡ may_declare (Some e) t defines
built_in_agrees table n (scope.BuiltIn u) t defines same r is by h = agree r same true true defines t u h (by u is) refl
built_in_agrees table n (scope.Object u) t defines same r is by h = absurd is
built_in_agrees table n (scope.Routine u started) t defines same r is by h = absurd is
built_in_agrees table n scope.Printf t defines same r is by h = absurd is
