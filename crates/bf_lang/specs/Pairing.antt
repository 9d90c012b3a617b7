-- The partners of brackets, found from the front: the places of the `[` that are still open, the innermost first.
use Rattle.std.specs.Prelude.{◌≡◌, ℕ, ◌+◌, ◌<◌, ◌≤◌, ◌⊎◌, List, [], ◌∷◌, length, take, reverse, Some, slice_get, slice_range}
use Rattle.bf_lang.specs.declared.command.Command.{Command}
use Rattle.bf_lang.specs.declared.command.Command.TheVariants.{Open}
use Rattle.bf_lang.specs.declared.fold.Fold.{Fold}
use Rattle.bf_lang.specs.Balance.{IsBalanced}
use Rattle.bf_lang.specs.Fold.{IsFold, fold_at}

-- the commands before a place are balanced but for these `[`
abbrev pub AreOpen : List Command → ℕ → List ℕ → Type 0
AreOpen code k [] = IsBalanced (take k code)
AreOpen code k (i ∷ is) = (i < k) × (slice_get code i ≡ Some Open) × IsBalanced (slice_range code (i + 1) k) × AreOpen code i is

abbrev pub IsAmong : ℕ → List ℕ → Type 0
IsAmong p [] = ⊥
IsAmong p (i ∷ is) = (p ≡ i) ⊎ IsAmong p is

-- what begins at each place before this one is known, but for the `[` that are still open
pub record ArePaired (code : List Command) (k : ℕ) (folds : List Fold) (waiting : List ℕ) : Type 0 where
  pub count : length folds ≡ k
  pub within : k ≤ length code
  pub pending : AreOpen code k (reverse waiting)
  pub each : (p : ℕ) → p < k → IsFold code p (fold_at folds p) ⊎ IsAmong p (reverse waiting)
