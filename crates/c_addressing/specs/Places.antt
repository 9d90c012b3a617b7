-- Locations and known values of the code, whose numbers are told modulo 2^24.
use Rattle.std.specs.Prelude.{◌≡◌, ℕ, List, [], ◌∷◌, Option, Some, None}
use Rattle.c_lowered.specs.Locations as plain
use Rattle.c_emission.specs.declared.location.Location.{Location}
use Rattle.c_emission.specs.declared.location.Location.TheVariants.{Fixed, Framed}
use Rattle.c_emission.specs.declared.location.Direct.{Direct}
use Rattle.c_emission.specs.declared.location.Direct.TheVariants.{Exactly, Address, Stored}
use Rattle.c_counted.specs.Numbers.{IsNumber}

abbrev pub IsLocation : Location → plain.Location → Type 0
IsLocation (Fixed a) (plain.Fixed n) = IsNumber a n
IsLocation (Framed k) (plain.Framed n) = IsNumber k n
IsLocation _ _ = ⊥

-- locations, one by one
abbrev pub AreLocations : List Location → List plain.Location → Type 0
AreLocations [] [] = Unit {0}
AreLocations (l ∷ ls) (p ∷ ps) = IsLocation l p × AreLocations ls ps
AreLocations _ _ = ⊥

abbrev pub IsDirect : Direct → plain.Direct → Type 0
IsDirect (Exactly a) (plain.Exactly n) = IsNumber a n
IsDirect (Address k) (plain.Address n) = IsNumber k n
IsDirect (Stored l) (plain.Stored p) = IsLocation l p
IsDirect _ _ = ⊥

abbrev pub IsDirectOrNone : Option Direct → Option plain.Direct → Type 0
IsDirectOrNone (Some v) (Some d) = IsDirect v d
IsDirectOrNone None None = Unit {0}
IsDirectOrNone _ _ = ⊥
