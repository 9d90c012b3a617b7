-- Code in two parts, and what follows of the shift to the right from the numbers of its blocks.
use Rattle.std.specs.Prelude.{ℕ, Bool, List, ◌++◌}
use Rattle.eir_core.specs.Eir.{Eir}
use Rattle.c_place.specs.Place.{Place}
use Rattle.c_routines.specs.declared.item.Item.{Item}
use Rattle.c_routines.specs.Items.{Stands}
use Rattle.c_routines.specs.Cuts.{Numbered}
use Rattle.c_routines.specs.Right.{right, HasTwoBlocks}

-- where the whole is numbered or stands, each part is or does; and where the shift to the right is numbered, its pieces have two blocks
pub record PartsStand : Type 0 where
  pub front_numbered : (at : ℕ → ℕ) (xs ys : List Item) (k : ℕ) (within : Bool) → Numbered at k within (xs ++ ys) → Numbered at k within xs
  pub rest_numbered : (at : ℕ → ℕ) (xs ys : List Item) (k : ℕ) (within : Bool) → Numbered at k within (xs ++ ys) → (j : ℕ) × (w : Bool) × Numbered at j w ys
  pub front_stands : (at : ℕ → ℕ) (p : Eir) (xs ys : List Item) (s : Place) → Stands p at s (xs ++ ys) → Stands p at s xs
  pub rest_stands : (at : ℕ → ℕ) (p : Eir) (xs ys : List Item) (s : Place) → Stands p at s (xs ++ ys) → (t : Place) × Stands p at t ys
  pub two_blocks : (at : ℕ → ℕ) (base k : ℕ) (within : Bool) → Numbered at k within (right base) → HasTwoBlocks at base
