-- Names, found and kept, and what is declared while the table of types grows.
use Rattle.std.proofs.Common.{◌≡◌, ℕ, Bool, true, false, ◌||◌, List, [], ◌∷◌, ◌++◌, Option, Some, None, refl, sym, ap, subst, if◌then◌else◌}
use Rattle.std.specs.Prelude.{slice_get, is_some, Ok, Err}
use Rattle.std.specs.Option.{option_map_or}
use Rattle.std.specs.Str.{bytes_eq}
use Rattle.std.specs.List.{list_any}
use denote.Ref.{Bor}
use Rattle.c_syntax.specs.Words.{meaning}
use Rattle.c_types.specs.declared.fault.TypeFault.TheVariants as fault
use Rattle.c_types.specs.Types as types
use Rattle.c_types.specs.Types.{CType, Layout}
use Rattle.c_types.specs.Expressions.{struct_in}
use Rattle.c_types.specs.Scope as scope
use Rattle.c_types.specs.Scope.{Scope, is_function, contains}
use Rattle.c_types.specs.Known.{OneType, Grows}
use Rattle.c_types.specs.Table.{Table, known, HasType, texts}
use Rattle.c_layouts.proofs.KeptLemmas.{layouts_kept}
use Rattle.c_scopes.specs.declared.entity.Entity.{Entity}
use Rattle.c_scopes.specs.declared.entity.Entity.TheVariants.{Object, Routine, BuiltIn, Printf}
use Rattle.c_operands.specs.declared.declarations.Declarations.{Declarations}
use Rattle.c_operands.specs.Scoped.{IsEntity, IsEntityOrNone, AreNames, AreNumbered, Fits}

pub entity_kept : (old new : Table) (a : Entity) (b : scope.Entity) → Grows (known old) (known new) → IsEntity old a b → IsEntity new a b
entity_kept old new (Object n) (scope.Object t) grows h = grows n (OneType t) h
entity_kept old new (Routine n begun) (scope.Routine t started) grows h = (grows n (OneType t) h.0, h.1)
entity_kept old new (BuiltIn n) (scope.BuiltIn t) grows h = grows n (OneType t) h
entity_kept old new Printf scope.Printf grows h = h
entity_kept old new _ _ grows h = absurd h

pub names_kept : (old new : Table) (names : List (List ℕ × Entity)) (others : scope.Names) → Grows (known old) (known new) → AreNames old names others → AreNames new names others
names_kept old new [] [] grows h = h
names_kept old new (a ∷ names) (b ∷ others) grows h = (h.0, entity_kept old new a.1 b.1 grows h.1, names_kept old new names others grows h.2)
names_kept old new [] (b ∷ others) grows h = absurd h
names_kept old new (a ∷ names) [] grows h = absurd h

by_name : (table : Table) (test : Bool) (a : Entity) (b : scope.Entity) (found : Option Entity) (other : Option scope.Entity) → IsEntity table a b → IsEntityOrNone table found other
    → IsEntityOrNone table (if test then Some a else found) (if test then Some b else other)
by_name table true a b found other h k = h
by_name table false a b found other h k = k

pub found : (table : Table) (names : List (List ℕ × Entity)) (others : scope.Names) (name : List ℕ) → AreNames table names others → IsEntityOrNone table (meaning names name) (meaning others name)
found table [] [] name h = h
found table (a ∷ names) (b ∷ others) name h =
    subst (λ (k : List ℕ). IsEntityOrNone table (meaning (a ∷ names) name) (if bytes_eq name k then Some b.1 else meaning others name)) h.0
    (by_name table (bytes_eq name a.0) a.1 b.1 (meaning names name) (meaning others name) h.1 (found table names others name h.2))
found table [] (b ∷ others) name h = absurd h
found table (a ∷ names) [] name h = absurd h

pub both_blocks : (table : Table) (block outer : List (List ℕ × Entity)) (others around : scope.Names) → AreNames table block others → AreNames table outer around → AreNames table (block ++ outer) (others ++ around)
both_blocks table [] outer [] around h k = k
both_blocks table (a ∷ block) outer (b ∷ others) around h k = (h.0, h.1, both_blocks table block outer others around h.2 k)
both_blocks table [] outer (b ∷ others) around h k = absurd h
both_blocks table (a ∷ block) outer [] around h k = absurd h

-- a set of names and the names in it
pub any_text : (name : List ℕ) (ks : List (Bor (List ℕ))) → list_any (λ k. bytes_eq name k.now) ks ≡ contains (texts ks) name
any_text name [] = refl
any_text name (k ∷ ks) = ap (λ (b : Bool). bytes_eq name k.now || b) (any_text name ks)

-- ---- what is declared, while the table grows

numbered_kept : (old new : Table) (s : Scope) → new.tags ≡ old.tags → AreNumbered old s.tags → AreNumbered new s.tags
numbered_kept old new s same h = λ name layout e.
    let p = h name layout e in
    (p.0, subst (λ (names : List (List ℕ)). slice_get names p.0 ≡ Some name) (sym same) p.1)

pub fits_kept : (old new : Table) (d : Declarations) (s : Scope) → Grows (known old) (known new) → new.tags ≡ old.tags → Fits old d s → Fits new d s
fits_kept old new d s grows same h = record {
  layouts = layouts_kept old new d.layouts.items s.tags grows same h.layouts;
  numbered = numbered_kept old new s same h.numbered;
  block = names_kept old new d.names.block s.block grows h.block;
  outer = names_kept old new d.names.outer s.outer grows h.outer;
  defined = h.defined;
}

-- ---- entities

pub object_is : (table : Table) (n : ℕ) (o : Option scope.Entity) → IsEntityOrNone table (Some (Object n)) o → (t : CType) × (o ≡ Some (scope.Object t)) × HasType table n t
object_is table n (Some (scope.Object t)) h = (t, refl, h)
object_is table n (Some (scope.Routine t b)) h = absurd h
object_is table n (Some (scope.BuiltIn t)) h = absurd h
object_is table n (Some scope.Printf) h = absurd h
object_is table n None h = absurd h

-- a function of the text, whose definition has begun in both or in neither
pub routine_is : (table : Table) (n : ℕ) (begun : Bool) (o : Option scope.Entity) → IsEntityOrNone table (Some (Routine n begun)) o → (t : CType) × (o ≡ Some (scope.Routine t begun)) × HasType table n t
routine_is table n begun (Some (scope.Routine t b)) h = (t, ap (λ (k : Bool). Some (scope.Routine t k)) (sym h.1), h.0)
routine_is table n begun (Some (scope.Object t)) h = absurd h
routine_is table n begun (Some (scope.BuiltIn t)) h = absurd h
routine_is table n begun (Some scope.Printf) h = absurd h
routine_is table n begun None h = absurd h

pub built_in_is : (table : Table) (n : ℕ) (o : Option scope.Entity) → IsEntityOrNone table (Some (BuiltIn n)) o → (t : CType) × (o ≡ Some (scope.BuiltIn t)) × HasType table n t
built_in_is table n (Some (scope.BuiltIn t)) h = (t, refl, h)
built_in_is table n (Some (scope.Object t)) h = absurd h
built_in_is table n (Some (scope.Routine t b)) h = absurd h
built_in_is table n (Some scope.Printf) h = absurd h
built_in_is table n None h = absurd h

pub printf_is : (table : Table) (o : Option scope.Entity) → IsEntityOrNone table (Some Printf) o → o ≡ Some scope.Printf
printf_is table (Some scope.Printf) h = refl
printf_is table (Some (scope.Object t)) h = absurd h
printf_is table (Some (scope.Routine t b)) h = absurd h
printf_is table (Some (scope.BuiltIn t)) h = absurd h
printf_is table None h = absurd h

pub none_is : (table : Table) (o : Option scope.Entity) → IsEntityOrNone table None o → o ≡ None
none_is table None h = refl
none_is table (Some e) h = absurd h

-- ---- tags

pub struct_there : (s : Scope) (at : ℕ) (name : List ℕ) → is_some (meaning s.tags name) ≡ true → struct_in s at name ≡ Ok (types.Struct name)
struct_there s at name h = by (meaning s.tags name) h where
  by : (o : Option Layout) → is_some o ≡ true → option_map_or (λ _. Ok (types.Struct name)) o (Err (fault.Unknown at)) ≡ Ok (types.Struct name)
  by (Some layout) e = refl
  by None e = cc

pub no_struct : (s : Scope) (at : ℕ) (name : List ℕ) → is_some (meaning s.tags name) ≡ false → struct_in s at name ≡ Err (fault.Unknown at)
no_struct s at name h = by (meaning s.tags name) h where
  by : (o : Option Layout) → is_some o ≡ false → option_map_or (λ _. Ok (types.Struct name)) o (Err (fault.Unknown at)) ≡ Err (fault.Unknown at)
  by (Some layout) e = cc
  by None e = refl

pub not_numbered : (table : Table) (s : Scope) (name : List ℕ) → AreNumbered table s.tags → ((n : ℕ) → slice_get table.tags n ≡ Some name → ⊥) → is_some (meaning s.tags name) ≡ false
not_numbered table s name h none = by (meaning s.tags name) refl where
  by : (o : Option Layout) → meaning s.tags name ≡ o → is_some o ≡ false
  by (Some layout) e = let p = h name layout e in absurd (none p.0 p.1)
  by None e = refl
