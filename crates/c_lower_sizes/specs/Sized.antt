-- Programs within a room.
use Rattle.std.specs.Prelude.{◌≡◌, ◌≤◌, ◌<◌, ℕ, Option, Some, None}
use Rattle.eir_core.specs.Eir.{Eir, size_of}

-- the program itself, if its size is at most the room
abbrev pub IsSized : ℕ → Eir → Option Eir → Type 0
IsSized room p (Some made) = (made ≡ p) × (size_of p ≤ room)
IsSized room p None = room < size_of p
