-- Names of objects and of functions.
use Rattle.std.specs.Prelude.{ℕ, List, Option, Some, None, unwrap_or, slice_get}
use Rattle.std.specs.Map.{lookup}
use Rattle.std.specs.Str.{bytes_eq}
use denote.Ref.{Bor}
use Rattle.c_scopes.specs.declared.entity.Entity.{Entity}
use Rattle.c_scopes.specs.declared.entity.Entity.TheVariants.{Object}
use Rattle.c_emission.specs.declared.location.Location.{Location}
use Rattle.c_emission.specs.declared.location.Location.TheVariants.{Fixed}

-- the number that an entity is
abbrev pub number_in : Option Entity → Option ℕ
number_in (Some (Object n)) = Some n
number_in _ = None

-- the number of an object's name, if it is one; a parameter without an argument has none
abbrev pub slot_of : Option Entity → Option (Option ℕ)
slot_of (Some (Object slot)) = Some (Some slot)
slot_of (Some entity) = Some None
slot_of None = None

-- where the object of a number lies; what has no object lies at null
abbrev pub located_in : List Location → Option ℕ → Location
located_in bases (Some n) = unwrap_or (slice_get bases n) (Fixed 0)
located_in bases None = Fixed 0

-- the first block of a function, 0 for a name that is none's
abbrev pub entry_in : List (Bor (List ℕ) × ℕ) → List ℕ → ℕ
entry_in entries name = unwrap_or (lookup (λ k. bytes_eq name k.now) entries) 0
