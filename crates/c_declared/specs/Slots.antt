-- What the values of a braced list stand for, as the definitions have it.
use Rattle.std.specs.Prelude.{◌≡◌, ℕ, zero, suc, Bool, true, false, ◌&&◌, ◌==◌, nat_le, List, [], ◌∷◌, Option, Some, None, slice_get, if◌then◌else◌}
use Rattle.std.specs.Option.{option_map}
use denote.Ref.{Bor}
use Rattle.c_syntax.specs.Words.{meaning}
use Rattle.c_types.specs.Types as types
use Rattle.c_types.specs.Types.{CType, Tags, is_character}
use Rattle.c_types.specs.Declarations as plain
use Rattle.c_types.specs.Declarations.{next_slots, capacity}
use Rattle.c_types.specs.declared.shape.Shape.{Shape}
use Rattle.c_types.specs.declared.shape.Shape.TheVariants as shape
use Rattle.c_types.specs.Known.{Known, OneType}
use Rattle.c_types.specs.Table.{Table, known, HasType}
use Rattle.c_layouts.specs.declared.layout.Layout.{Layout}
use Rattle.c_layouts.specs.declared.layout.Layout.TheVariants as layout
use Rattle.c_declared.specs.declared.slots.Slots.{Slots}
use Rattle.c_declared.specs.declared.slots.Slots.TheVariants.{Elements, Members, Nothing}

-- the number of a type, or none
abbrev pub IsTypeOrNone : Table → Option ℕ → Option CType → Type 0
IsTypeOrNone table (Some n) (Some t) = HasType table n t
IsTypeOrNone table None None = Unit {0}
IsTypeOrNone table _ _ = ⊥

abbrev pub IsSomeOrNone : Table → Option ℕ → Type 0
IsSomeOrNone table n = (t : Option CType) × IsTypeOrNone table n t

-- ---- the members of tags in their order

abbrev pub Entries : Type 0
Entries = List (Bor (List ℕ) × ℕ)

abbrev pub entries_of : Layout → Entries
entries_of (layout.Members map words) = map.entries
entries_of _ = []

abbrev pub entries_in : Option Layout → Entries
entries_in (Some l) = entries_of l
entries_in None = []

-- the members of a tag in their order, with the numbers of their types
abbrev pub entries_at : List Layout → ℕ → Entries
entries_at layouts tag = entries_in (slice_get layouts tag)

abbrev pub member_number : Option (Bor (List ℕ) × ℕ) → Option ℕ
member_number o = option_map (λ e. e.1) o

-- these are the members one by one
abbrev pub AreListed : List Known → Entries → List (List ℕ × CType) → Type 0
AreListed all [] [] = Unit {0}
AreListed all (e ∷ entries) (m ∷ members) = (e.0.now ≡ m.0) × (slice_get all e.1 ≡ Some (OneType m.1)) × AreListed all entries members
AreListed all _ _ = ⊥

abbrev pub IsListed : List Known → Option Layout → Option types.Layout → Type 0
IsListed all (Some (layout.Members map words)) (Some (types.Members members count)) = AreListed all map.entries members
IsListed all _ _ = Unit {0}

-- each tag has its members in their order
abbrev pub AreOrdered : Table → List Layout → Tags → Type 0
AreOrdered table layouts tags = (n : ℕ) (tag : List ℕ) → slice_get table.tags n ≡ Some tag → IsListed (known table) (slice_get layouts n) (meaning tags tag)

-- ---- slots

-- these are the types of members one by one
abbrev pub AreTypes : Table → Entries → List CType → Type 0
AreTypes table [] [] = Unit {0}
AreTypes table (e ∷ entries) (t ∷ ts) = HasType table e.1 t × AreTypes table entries ts
AreTypes table _ _ = ⊥

abbrev pub AreSlots : Table → List Layout → Slots → plain.Slots → Type 0
AreSlots table layouts (Elements n count) (plain.Elements t many) = HasType table n t × (count ≡ many)
AreSlots table layouts (Members tag) (plain.Fields ts) = AreTypes table (entries_at layouts tag) ts
AreSlots table layouts Nothing plain.Nothing = Unit {0}
AreSlots table layouts _ _ = ⊥

-- what is left behind so many values
abbrev pub behind : ℕ → plain.Slots → plain.Slots
behind zero s = s
behind (suc k) s = behind k (next_slots s)

-- there is something for braces to stand for, and no more values than that
abbrev pub holds : ℕ → plain.Slots → Bool
holds count plain.Nothing = false
holds count s = nat_le count (capacity s)

-- ---- shapes

abbrev pub character : Shape → Bool
character shape.Char = true
character shape.UChar = true
character _ = false

-- the elements of an array whose length is left open
abbrev pub open_array : Shape → Option ℕ
open_array (shape.Array t n) = if n == 0 then Some t else None
open_array _ = None

-- a char array takes a string of so many bytes
abbrev pub takes_text : CType → ℕ → Bool
takes_text (types.Array t n) count = is_character t && nat_le count n
takes_text _ count = false
