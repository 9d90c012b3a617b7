-- A picture, and what lies ahead of a place.
use Rattle.piet_image.specs.declared.met.Met.{Met}
use Rattle.piet_image.specs.declared.met.Met.TheVariants.{Blocked, Free, Onto}
use Rattle.piet_image.specs.declared.place.Place.{Place}
use Rattle.std.specs.Prelude.{ℕ, zero, suc, Option, Some, None}
use Rattle.piet_image.specs.declared.colour.Colour.{Colour}
use Rattle.piet_image.specs.declared.colour.Colour.TheVariants.{White, Black, Hue}
use Rattle.piet_image.specs.declared.place.Pointer.{Pointer}
use Rattle.piet_image.specs.declared.place.Pointer.TheVariants.{Right, Down, Left, Up}
use Rattle.piet_image.specs.declared.place.Chooser.{Chooser}
use Rattle.piet_image.specs.declared.place.Chooser.TheVariants.{ToLeft, ToRight}

-- the colour of each place, and none outside
abbrev pub Picture : Type 0
Picture = Place → Option Colour

-- the place beside another
abbrev pub beside : Pointer → Place → Option Place
beside Right p = Some (record { x = suc p.x; y = p.y })
beside Down p = Some (record { x = p.x; y = suc p.y })
beside Left p = elim p.x [ zero ↦ None | suc x ↦ Some (record { x = x; y = p.y }) ]
beside Up p = elim p.y [ zero ↦ None | suc y ↦ Some (record { x = p.x; y = y }) ]

abbrev pub turned : Pointer → Pointer
turned Right = Down
turned Down = Left
turned Left = Up
turned Up = Right

abbrev pub toggled : Chooser → Chooser
toggled ToLeft = ToRight
toggled ToRight = ToLeft

-- the side of the pointer that the chooser names
abbrev pub side : Pointer → Chooser → Pointer
side d ToRight = turned d
side d ToLeft = turned (turned (turned d))

abbrev pub met_by : Place → Option Colour → Met
met_by p None = Blocked
met_by p (Some Black) = Blocked
met_by p (Some White) = Free p
met_by p (Some (Hue h l)) = Onto p h l

abbrev pub met_at : Picture → Option Place → Met
met_at f None = Blocked
met_at f (Some p) = met_by p (f p)

-- what lies ahead
abbrev pub ahead : Picture → Pointer → Place → Met
ahead f d p = met_at f (beside d p)
