-- Slots, and what is left of them behind some values.
use Rattle.std.proofs.Common.{◌≡◌, ℕ, zero, suc, ◌<◌, ◌≤◌, List, [], ◌∷◌, length, Option, Some, None, refl, sym, ap, subst, ◌∙◌, arith}
use Rattle.std.specs.Prelude.{slice_get, nat_le}
use Rattle.c_types.specs.Types as types
use Rattle.c_types.specs.Types.{CType}
use Rattle.c_types.specs.Declarations as plain
use Rattle.c_types.specs.Declarations.{first_slot, slots_of_struct, types_of_members}
use Rattle.c_types.specs.Table.{Table, known}
use Rattle.c_layouts.specs.declared.layout.Layout.{Layout}
use Rattle.c_layouts.specs.declared.layout.Layout.TheVariants as layout
use Rattle.c_layouts.specs.Layouts.{LayoutIs}
use Rattle.c_declared.specs.declared.slots.Slots.TheVariants.{Elements, Members, Nothing}
use Rattle.c_declared.specs.Slots.{IsTypeOrNone, Entries, entries_in, entries_at, member_number, AreListed, IsListed, AreTypes, AreSlots, behind, holds}

nothing_behind : (k : ℕ) → first_slot (behind k plain.Nothing) ≡ None
nothing_behind zero = refl
nothing_behind (suc k) = nothing_behind k

elements_left : (k : ℕ) (t : CType) (n : ℕ) → k < n → first_slot (behind k (plain.Elements t n)) ≡ Some t
elements_left zero t zero h = absurd (omega arith)
elements_left zero t (suc n) h = refl
elements_left (suc k) t zero h = absurd (omega arith)
elements_left (suc k) t (suc n) h = elements_left k t n (omega arith)

none_left : (k : ℕ) (t : CType) (n : ℕ) → n ≤ k → first_slot (behind k (plain.Elements t n)) ≡ None
none_left zero t zero h = refl
none_left zero t (suc n) h = absurd (omega arith)
none_left (suc k) t zero h = nothing_behind k
none_left (suc k) t (suc n) h = none_left k t n (omega arith)

fields_left : (table : Table) (entries : Entries) (ts : List CType) (k : ℕ) → AreTypes table entries ts → IsTypeOrNone table (member_number (slice_get entries k)) (first_slot (behind k (plain.Fields ts)))
fields_left table [] [] zero h = tt
fields_left table [] [] (suc k) h = subst (λ (o : Option CType). IsTypeOrNone table None o) (sym (nothing_behind k)) tt
fields_left table (e ∷ entries) (t ∷ ts) zero h = h.0
fields_left table (e ∷ entries) (t ∷ ts) (suc k) h = fields_left table entries ts k h.1
fields_left table [] (t ∷ ts) k h = absurd h
fields_left table (e ∷ entries) [] k h = absurd h

-- a value that stands for an element, or for none
pub element_slot : (table : Table) (layouts : List Layout) (n count k : ℕ) (s : plain.Slots) → AreSlots table layouts (Elements n count) s → k < count → IsTypeOrNone table (Some n) (first_slot (behind k s))
element_slot table layouts n count k (plain.Elements t many) h less =
    let room : k < many = subst (λ (m : ℕ). k < m) h.1 less in
    subst (λ (o : Option CType). IsTypeOrNone table (Some n) o) (sym (elements_left k t many room)) h.0
element_slot table layouts n count k (plain.Fields ts) h less = absurd h
element_slot table layouts n count k plain.Nothing h less = absurd h

pub no_element : (table : Table) (layouts : List Layout) (n count k : ℕ) (s : plain.Slots) → AreSlots table layouts (Elements n count) s → count ≤ k → IsTypeOrNone table None (first_slot (behind k s))
no_element table layouts n count k (plain.Elements t many) h past =
    let full : many ≤ k = subst (λ (m : ℕ). m ≤ k) h.1 past in
    subst (λ (o : Option CType). IsTypeOrNone table None o) (sym (none_left k t many full)) tt
no_element table layouts n count k (plain.Fields ts) h past = absurd h
no_element table layouts n count k plain.Nothing h past = absurd h

-- one that stands for a member, or for none
pub member_slot : (table : Table) (layouts : List Layout) (tag k : ℕ) (r : Option ℕ) (s : plain.Slots) → AreSlots table layouts (Members tag) s → r ≡ member_number (slice_get (entries_at layouts tag) k)
    → IsTypeOrNone table r (first_slot (behind k s))
member_slot table layouts tag k r (plain.Fields ts) h e = subst (λ (o : Option ℕ). IsTypeOrNone table o (first_slot (behind k (plain.Fields ts)))) (sym e) (fields_left table (entries_at layouts tag) ts k h)
member_slot table layouts tag k r (plain.Elements t many) h e = absurd h
member_slot table layouts tag k r plain.Nothing h e = absurd h

pub nothing_slot : (table : Table) (layouts : List Layout) (k : ℕ) (s : plain.Slots) → AreSlots table layouts Nothing s → IsTypeOrNone table None (first_slot (behind k s))
nothing_slot table layouts k plain.Nothing h = subst (λ (o : Option CType). IsTypeOrNone table None o) (sym (nothing_behind k)) tt
nothing_slot table layouts k (plain.Elements t many) h = absurd h
nothing_slot table layouts k (plain.Fields ts) h = absurd h

as_many : (table : Table) (entries : Entries) (ts : List CType) → AreTypes table entries ts → length entries ≡ length ts
as_many table [] [] h = refl
as_many table (e ∷ entries) (t ∷ ts) h = let more = as_many table entries ts h.1 in ap suc more
as_many table [] (t ∷ ts) h = absurd h
as_many table (e ∷ entries) [] h = absurd h

-- braces of a struct
pub members_hold : (table : Table) (layouts : List Layout) (tag count n : ℕ) (s : plain.Slots) → AreSlots table layouts (Members tag) s → n ≡ length (entries_at layouts tag) → nat_le count n ≡ holds count s
members_hold table layouts tag count n (plain.Fields ts) h e = ap (nat_le count) (e ∙ as_many table (entries_at layouts tag) ts h)
members_hold table layouts tag count n (plain.Elements t many) h e = absurd h
members_hold table layouts tag count n plain.Nothing h e = absurd h

-- ---- structs

listed_types : (table : Table) (entries : Entries) (members : List (List ℕ × CType)) → AreListed (known table) entries members → AreTypes table entries (types_of_members members)
listed_types table [] [] h = tt
listed_types table (e ∷ entries) (m ∷ members) h = (h.1, listed_types table entries members h.2)
listed_types table [] (m ∷ members) h = absurd h
listed_types table (e ∷ entries) [] h = absurd h

abbrev ListedAs : Table → Layout → Option types.Layout → Type 0
ListedAs table l o = IsListed (known table) (Some l) o

-- the members of a tag whose members are closed
pub closed_slots : (table : Table) (layouts : List Layout) (tag : ℕ) (map : _) (words : _) (o : Option types.Layout) → slice_get layouts tag ≡ Some (layout.Members map words)
    → LayoutIs (known table) (layout.Members map words) o → ListedAs table (layout.Members map words) o → AreSlots table layouts (Members tag) (slots_of_struct o)
closed_slots table layouts tag map words (Some (types.Members members count)) at h list =
    subst (λ (l : Option Layout). AreTypes table (entries_in l) (types_of_members members)) (sym at) (listed_types table map.entries members list)
closed_slots table layouts tag map words (Some types.Unfinished) at h list = absurd (not_closed h.members h.count h.is) where
  not_closed : (members : List (List ℕ × CType)) (count : ℕ) → Some types.Unfinished ≡ Some (types.Members members count) → ⊥
  not_closed members count e = cc
closed_slots table layouts tag map words None at h list = absurd (not_there h.members h.count h.is) where
  not_there : (members : List (List ℕ × CType)) (count : ℕ) → None ≡ Some (types.Members members count) → ⊥
  not_there members count e = cc
