-- Where objects lie of which these have first values, and which have so many cells.
use Rattle.std.specs.Prelude.{ℕ, ◌+◌, Bool, List, [], ◌∷◌, if◌then◌else◌}
use Rattle.c_lowered.specs.Locations.{Location, Fixed}
use Rattle.c_counted.specs.Numbers.{IsNumber}
use Rattle.c_lower_bases.specs.declared.bases.Ends.{Ends}

-- the words of one of them, if it is wanted
abbrev pub words_of_one : (wanted given : Bool) → ℕ → ℕ
words_of_one wanted given size = if given then (if wanted then size else 0) else (if wanted then 0 else size)

abbrev pub words_over : Bool → List Bool → List ℕ → ℕ
words_over wanted (given ∷ more) (size ∷ sizes) = words_of_one wanted given size + words_over wanted more sizes
words_over wanted _ _ = 0

abbrev pub bases_over : List Bool → List ℕ → (given other : ℕ) → List Location
bases_over (first ∷ more) (size ∷ sizes) a b = (if first then Fixed a else Fixed b) ∷ bases_over more sizes (if first then a + size else a) (if first then b else b + size)
bases_over _ _ a b = []

-- these addresses are told
pub record AreEnds (ends : Ends) (given other : ℕ) : Type 0 where
  pub given_at : IsNumber ends.given given
  pub other_at : IsNumber ends.other other
