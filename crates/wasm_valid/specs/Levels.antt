-- What is known of the number of values within a block.
use Rattle.std.specs.Prelude.{◌≡◌, ℕ, ◌+◌, ◌-◌, ◌≤◌, Bool, true, false, cond, Option, Some, None, nat_eq, nat_le}
use Rattle.std.specs.Option.{option_map}
pub use Rattle.wasm_valid.specs.declared.level.Level.{Level}
use Rattle.wasm_valid.specs.Effects.{Effect, Turns, Breaks}

-- nothing is on the stack
abbrev pub at_start : Level
at_start = record { height = 0; reached = true }

-- any number of values may be on it
abbrev pub at_break : Level
at_break = record { height = 0; reached = false }

-- so many values may be on it
abbrev pub Allows : Level → ℕ → Type 0
Allows l n = elim l.reached [ true ↦ n ≡ l.height | false ↦ l.height ≤ n ]

abbrev pub is_allowed : Level → ℕ → Bool
is_allowed l n = cond l.reached (nat_eq n l.height) (nat_le l.height n)

-- so many values less
abbrev pub without : Level → ℕ → Option Level
without l n = cond (nat_le n l.height) (Some (record l { height = l.height - n })) (cond l.reached None (Some at_break))

-- so many values more
abbrev pub with_more : ℕ → Level → Level
with_more n l = record l { height = l.height + n }

-- what an effect leaves
abbrev pub level_after : Level → Effect → Option Level
level_after l (Turns takes gives) = option_map (with_more gives) (without l takes)
level_after l (Breaks takes) = option_map (λ _. at_break) (without l takes)
