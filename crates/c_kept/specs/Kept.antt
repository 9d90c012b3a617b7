-- Functions that keep their bodies, and those that lose them.
use Rattle.std.specs.Prelude.{ℕ, zero, suc, Bool, true, List, [], ◌∷◌, None, if◌then◌else◌}
use Rattle.c_syntax.specs.Plain as plain
use Rattle.c_syntax.specs.Plain.{CItem}
use Rattle.c_types.specs.Scope.{contains}

-- an external stays as it is, if it is no function or one of these names
abbrev pub stays : List (List ℕ) → CItem → Bool
stays names (plain.Function name at result params body) = contains names name
stays names item = true

-- a function with its body, or without
abbrev pub kept_by : Bool → CItem → CItem
kept_by with_body (plain.Function name at result params body) = plain.Function name at result params (if with_body then body else None)
kept_by with_body item = item

-- that for the external at a place
abbrev pub kept_at : ℕ → Bool → List CItem → List CItem
kept_at n flag [] = []
kept_at zero flag (item ∷ items) = kept_by flag item ∷ items
kept_at (suc n) flag (item ∷ items) = item ∷ kept_at n flag items

-- and for the first ones, as a list says
abbrev pub all_kept : List Bool → List CItem → List CItem
all_kept (flag ∷ flags) (item ∷ items) = kept_by flag item ∷ all_kept flags items
all_kept flags items = items
