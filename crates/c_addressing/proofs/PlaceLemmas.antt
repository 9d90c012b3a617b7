-- Locations and names.
use Rattle.std.proofs.Common.{◌≡◌, ℕ, zero, suc, ◌+◌, ◌-◌, ◌%◌, ◌^◌, List, [], ◌∷◌, ◌++◌, refl, sym, ap, subst, ◌∙◌, arith}
use Rattle.std.specs.Prelude.{Bool, true, false, Option, Some, None, unwrap_or, slice_get}
use Rattle.c_syntax.specs.Words.{meaning}
use Rattle.c_types.specs.Types.{CType}
use Rattle.c_types.specs.Scope as scope
use Rattle.c_types.specs.Scope.{Scope, entity_of}
use Rattle.c_scopes.specs.declared.entity.Entity.{Entity}
use Rattle.c_scopes.specs.declared.entity.Entity.TheVariants.{Object, Routine, BuiltIn, Printf}
use Rattle.c_types.specs.Table.{Table, HasType}
use Rattle.c_operands.specs.declared.declarations.Declarations.{Declarations}
use Rattle.c_operands.specs.Scoped.{Fits, IsEntityOrNone}
use Rattle.c_operands.proofs.NameLemmas.{found, both_blocks, object_is}
use Rattle.c_lowered.specs.Locations as plain
use Rattle.c_lowered.specs.Locations.{Linking}
use Rattle.c_emission.specs.declared.location.Location.{Location}
use Rattle.c_emission.specs.declared.location.Location.TheVariants.{Fixed}
use Rattle.c_emission.specs.declared.location.Direct.{Direct}
use Rattle.c_emission.specs.declared.location.Direct.TheVariants.{Exactly, Address, Stored}
use Rattle.c_counted.specs.Numbers.{IsNumber}
use Rattle.c_addressing.specs.Names.{number_in, slot_of, located_in}
use Rattle.c_addressing.specs.Places.{IsLocation, AreLocations, IsDirect}

-- the location of a number
pub base_is : (bases : List Location) (places : List plain.Location) (n : ℕ) → AreLocations bases places → IsLocation (unwrap_or (slice_get bases n) (Fixed 0)) (unwrap_or (slice_get places n) (plain.Fixed 0))
base_is [] [] n h = record { same = refl }
base_is (l ∷ ls) (p ∷ ps) zero h = h.0
base_is (l ∷ ls) (p ∷ ps) (suc n) h = base_is ls ps n h.1
base_is [] (p ∷ ps) n h = absurd h
base_is (l ∷ ls) [] n h = absurd h

-- where the object of a name lies
pub located_is : (bases : List Location) (w : Linking) (o : Option Entity) (m : Option (Option ℕ)) → AreLocations bases w.bases → slot_of o ≡ m → IsLocation (located_in bases (number_in o)) (plain.located w m)
located_is bases w (Some (Object n)) m h e = subst (λ (k : Option (Option ℕ)). IsLocation (located_in bases (Some n)) (plain.located w k)) e (base_is bases w.bases n h)
located_is bases w (Some (Routine n b)) m h e = subst (λ (k : Option (Option ℕ)). IsLocation (Fixed 0) (plain.located w k)) e (record { same = refl })
located_is bases w (Some (BuiltIn n)) m h e = subst (λ (k : Option (Option ℕ)). IsLocation (Fixed 0) (plain.located w k)) e (record { same = refl })
located_is bases w (Some Printf) m h e = subst (λ (k : Option (Option ℕ)). IsLocation (Fixed 0) (plain.located w k)) e (record { same = refl })
located_is bases w None m h e = subst (λ (k : Option (Option ℕ)). IsLocation (Fixed 0) (plain.located w k)) e (record { same = refl })

-- what a name stands for
pub entity_found : (table : Table) (d : Declarations) (s : Scope) (name : List ℕ) → Fits table d s → IsEntityOrNone table (meaning (d.names.block ++ d.names.outer) name) (entity_of s name)
entity_found table d s name fits = found table (d.names.block ++ d.names.outer) (s.block ++ s.outer) name (both_blocks table d.names.block d.names.outer s.block s.outer fits.block fits.outer)

-- it is an object
pub is_object : (o : Option Entity) (ty : ℕ) → number_in o ≡ Some ty → o ≡ Some (Object ty)
is_object (Some (Object n)) ty e = let same : n ≡ ty = cc in ap (λ (k : ℕ). Some (Object k)) same
is_object (Some (Routine n b)) ty e = absurd cc
is_object (Some (BuiltIn n)) ty e = absurd cc
is_object (Some Printf) ty e = absurd cc
is_object None ty e = absurd cc

pub object_found : (table : Table) (o : Option Entity) (p : Option scope.Entity) (ty : ℕ) → number_in o ≡ Some ty → IsEntityOrNone table o p → (t : CType) × (p ≡ Some (scope.Object t)) × HasType table ty t
object_found table o p ty e h = object_is table ty p (subst (λ (q : Option Entity). IsEntityOrNone table q p) (is_object o ty e) h)

-- it is none
pub function_found : (table : Table) (w : Linking) (here : _) (name : List ℕ) (o : Option Entity) (p : Option scope.Entity) → number_in o ≡ None → IsEntityOrNone table o p → plain.named_direct w here name p ≡ Some (plain.Exactly (w.entry name))
function_found table w here name (Some (Object n)) p e h = absurd cc
function_found table w here name o (Some (scope.Routine t b)) e h = refl
function_found table w here name o (Some (scope.BuiltIn t)) e h = refl
function_found table w here name o (Some scope.Printf) e h = refl
function_found table w here name o None e h = refl
function_found table w here name (Some (Routine n b)) (Some (scope.Object t)) e h = absurd h
function_found table w here name (Some (BuiltIn n)) (Some (scope.Object t)) e h = absurd h
function_found table w here name (Some Printf) (Some (scope.Object t)) e h = absurd h
function_found table w here name None (Some (scope.Object t)) e h = absurd h

-- ---- known values

abbrev stays : Direct → Bool
stays (Stored l) = false
stays _ = true

pub steady : (v : Direct) (d : plain.Direct) → IsDirect v d → stays v ≡ plain.is_steady d
steady (Exactly a) (plain.Exactly n) h = refl
steady (Address a) (plain.Address n) h = refl
steady (Stored l) (plain.Stored p) h = refl
steady (Exactly a) (plain.Address n) h = absurd h
steady (Exactly a) (plain.Stored p) h = absurd h
steady (Address a) (plain.Exactly n) h = absurd h
steady (Address a) (plain.Stored p) h = absurd h
steady (Stored l) (plain.Exactly n) h = absurd h
steady (Stored l) (plain.Address n) h = absurd h
