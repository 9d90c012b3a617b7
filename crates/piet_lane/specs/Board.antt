-- The picture of lanes.
use Rattle.std.specs.Prelude.{ℕ, zero, suc, ◌+◌, ◌-◌, ◌*◌, ◌/◌, ◌%◌, cond, nat_eq, nat_le, nat_lt, ◌&&◌, List, [], ◌∷◌, length, Option, Some, None, slice_get, unwrap_or}
use Rattle.piet_image.specs.declared.colour.Colour.{Colour}
use Rattle.piet_image.specs.declared.colour.Colour.TheVariants.{White, Black, Hue}
use Rattle.piet_lang.specs.declared.act.Act.{Act}
use Rattle.piet_lang.specs.declared.act.Act.TheVariants.{Push, Pop, Add, Subtract, Multiply, Divide, Modulo, Not, Greater, Point, Switch, Duplicate, Roll, InNumber, InChar, OutNumber, OutChar}
use Rattle.piet_image.specs.Picture.{Picture}
pub use Rattle.piet_lane.specs.declared.shade.Shade.{Shade}
pub use Rattle.piet_lane.specs.declared.cell.Cell.{Cell}
pub use Rattle.piet_lane.specs.declared.cell.Cell.TheVariants.{Outside, Dark, Light, Column, Lane}

abbrev pub hues : Act → ℕ
hues Push = 0
hues Pop = 0
hues Add = 1
hues Subtract = 1
hues Multiply = 1
hues Divide = 2
hues Modulo = 2
hues Not = 2
hues Greater = 3
hues Point = 3
hues Switch = 3
hues Duplicate = 4
hues Roll = 4
hues InNumber = 4
hues InChar = 5
hues OutNumber = 5
hues OutChar = 5

abbrev pub lights : Act → ℕ
lights Push = 1
lights Pop = 2
lights Add = 0
lights Subtract = 1
lights Multiply = 2
lights Divide = 0
lights Modulo = 1
lights Not = 2
lights Greater = 0
lights Point = 1
lights Switch = 2
lights Duplicate = 0
lights Roll = 1
lights InNumber = 2
lights InChar = 0
lights OutNumber = 1
lights OutChar = 2

-- the shade to which an act leads
abbrev pub shifted : Shade → Act → Shade
shifted c a = record { hue = (c.hue + hues a) % 6; light = (c.light + lights a) % 3 }

-- the shade of a codel of a chain of acts
abbrev pub along : Shade → List Act → ℕ → Shade
along c [] k = c
along c (a ∷ rest) zero = c
along c (a ∷ rest) (suc k) = along (shifted c a) rest k

-- what the column does between the lanes
abbrev pub period : List Act
period = Duplicate ∷ Not ∷ Point ∷ Push ∷ Subtract ∷ []

abbrev pub head_shade : ℕ → Shade
head_shade i = record { hue = (4 * i) % 6; light = (2 * i) % 3 }

-- the shade of the column, so many codels below the head of a lane
abbrev pub column_shade : ℕ → ℕ → Shade
column_shade i r = along (head_shade i) period r

-- what stands at a place
-- of a board of so many lanes, the longest of which has so many acts, with this start
unfoldable pub cell : ℕ → ℕ → ℕ → ℕ → ℕ → Cell
cell count reach start x y =
    cond (nat_lt x (reach + 5) && nat_lt y (5 * count + 6))
    (cond (nat_eq y 0) Light
    (cond (nat_eq x (reach + 4)) (cond (nat_le y (6 + 5 * start)) Light Dark)
    (cond (nat_eq x (reach + 3)) (cond (nat_eq y (6 + 5 * start)) Light Dark)
    (cond (nat_eq y 1) Dark
    (cond (nat_eq y 2) Light
    (cond (nat_le (5 * count + 4) y) (cond (nat_le (reach + 1) x) Light Dark)
    (cond (nat_eq x (reach + 2)) (Column ((y - 3) / 5) ((y - 3) % 5))
    (cond (nat_eq y (5 * count + 3)) Dark
    (cond (nat_eq x 0) Light
    (cond (nat_eq ((y - 3) % 5) 3) (Lane ((y - 3) / 5) (reach + 2 - x)) Dark))))))))))
    Outside

abbrev pub in_shade : Shade → Option Colour
in_shade c = Some (Hue c.hue c.light)

abbrev pub lane_at : List (List Act) → ℕ → List Act
lane_at lanes i = unwrap_or (slice_get lanes i) []

-- a lane begins by letting the number go that led to it
abbrev pub lane_shown : List Act → ℕ → ℕ → Option Colour
lane_shown acts i k = cond (nat_le k (suc (length acts))) (in_shade (along (column_shade i 3) (Pop ∷ acts) k)) (Some White)

abbrev pub shown : List (List Act) → Cell → Option Colour
shown lanes Outside = None
shown lanes Dark = Some Black
shown lanes Light = Some White
shown lanes (Column i r) = in_shade (column_shade i r)
shown lanes (Lane i k) = lane_shown (lane_at lanes i) i k

abbrev pub board : List (List Act) → ℕ → ℕ → Picture
board lanes reach start p = shown lanes (cell (length lanes) reach start p.x p.y)
