-- The first blocks of functions, by their names.
use Rattle.std.specs.Prelude.{◌≡◌, ℕ, List, Option, Some, None, if◌then◌else◌}
use Rattle.std.specs.Map.{lookup}
use Rattle.std.specs.Str.{bytes_eq}
use denote.Ref.{Bor}
use Rattle.c_eval.specs.Text.{Definition}
use Rattle.c_lowered.specs.Whole.{entry_in}
use Rattle.c_counted.specs.Numbers.{IsNumber}

abbrev pub Entries : Type 0
Entries = List (Bor (List ℕ) × ℕ)

-- the block that is known of a name
abbrev pub entry_found : Entries → List ℕ → Option ℕ
entry_found entries name = lookup (λ k. bytes_eq name k.now) entries

abbrev pub or_else : Option ℕ → Option ℕ → Option ℕ
or_else (Some n) other = Some n
or_else None other = other

-- a name has this block, if none was known of it
pub record AddsEntry (old new : Entries) (name : List ℕ) (block : ℕ) : Type 0 where
  pub found : (other : List ℕ) → entry_found new other ≡ or_else (entry_found old other) (if bytes_eq other name then Some block else None)

-- a block that was found is the one that is meant; else it is still to be found
abbrev pub IsFound : Option ℕ → (meant left : ℕ) → Type 0
IsFound (Some block) meant left = IsNumber block meant
IsFound None meant left = meant ≡ left

-- the first functions have their blocks, and those that are left begin in this one
pub record AreEntered (entries : Entries) (block : ℕ) (all left : List Definition) : Type 0 where
  pub at : ℕ
  pub told : IsNumber block at
  pub found : (name : List ℕ) → IsFound (entry_found entries name) (entry_in all 2 name) (entry_in left at name)
