-- Where names have their objects.
use Rattle.std.specs.Prelude.{◌≡◌, ℕ, List, ◌++◌, Option, Some, None}
use Rattle.c_syntax.specs.Words.{meaning}
use Rattle.c_scopes.specs.declared.entity.Entity.{Entity}
use Rattle.c_scopes.specs.declared.entity.Entity.TheVariants.{Object}
use Rattle.c_scopes.specs.Blocks.{Blocks}

-- the slot of a name in the function, if it is declared there; a parameter without an argument has none
abbrev pub slot_of : Option Entity → Option (Option ℕ)
slot_of (Some (Object slot)) = Some (Some slot)
slot_of (Some entity) = Some None
slot_of None = None

-- the names that are declared in a function have these slots
pub record AreInSlots (slots : Blocks) (objects : List (List ℕ × Option ℕ)) : Type 0 where
  pub found : (name : List ℕ) → slot_of (meaning (slots.block ++ slots.outer) name) ≡ meaning objects name
