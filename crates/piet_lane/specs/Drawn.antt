-- What a board is drawn of, and its codels one by one.
use Rattle.std.specs.Prelude.{◌≡◌, ℕ, ◌+◌, ◌*◌, ◌^◌, ◌<◌, ◌≤◌, nat_lt, cond, List, [], ◌∷◌, ◌++◌, length, map as map_list, Option, Some, None, slice_get, unwrap_or, Result, OnOk, OnErr, IsErrOf}
use Rattle.piet_image.specs.declared.colour.Colour.{Colour}
use Rattle.piet_image.specs.declared.colour.Colour.TheVariants.{White, Black, Hue}
use Rattle.piet_image.specs.declared.place.Place.{Place}
use Rattle.mach_core.specs.Outside.{Rose}
use Rattle.mach_core.specs.Put.{Passes, GotPrefix}
use Rattle.mach_core.specs.Puts.{Outlet}
use Rattle.piet_image.specs.Printed.{image_text, each_of}
use Rattle.piet_image.specs.Raster.{Raster, picture_of}
use Rattle.piet_image.specs.Text.{Spells}
use Rattle.piet_image.proofs.Images.{image_atlas}
use Rattle.piet_lang.specs.declared.act.Act.{Act}
use Rattle.piet_lang.specs.declared.act.Act.TheVariants.{Pop as act_Pop}
use Rattle.piet_lane.specs.declared.command.Command.{Command}
use Rattle.piet_lane.specs.declared.board.Board.TheInside.{Inside}
use Rattle.piet_lane.specs.declared.board.WriteFault.{WriteFault}
use Rattle.piet_lane.specs.declared.board.WriteFault.TheVariants.{Write}
use Rattle.piet_lane.specs.Board.{Shade, shifted, column_shade, Cell, Outside, Dark, Light, Column, Lane, in_shade, lane_at, board}
use Rattle.piet_lane.specs.Lanes.{lanes_of}
use Rattle.piet_lane.specs.Runs.{RunsLanes, AtEnd}

-- lanes, how many commands the longest has, and the number of the first
pub record Drawn : Type 0 where
  pub lanes : List (List Command)
  pub reach : ℕ
  pub start : ℕ

abbrev pub drawn_of : Inside → Drawn
drawn_of b = record { lanes = map_list (λ v. v.items) b.lanes.items; reach = b.reach; start = b.start }

-- the commands of a lane
abbrev pub lane_in : List (List Command) → ℕ → List Command
lane_in lanes i = unwrap_or (slice_get lanes i) []

-- none of the lanes is longer
abbrev pub Reached : List (List Command) → ℕ → Type 0
Reached lanes reach = (k : ℕ) (lane : List Command) → slice_get lanes k ≡ Some lane → length lane ≤ reach

pub record IsDrawn (d : Drawn) : Type 0 where
  pub few : length d.lanes ≤ 16384
  pub known : d.start < length d.lanes
  pub reached : Reached d.lanes d.reach
  pub short : d.reach ≤ 512

abbrev pub IsInside : Inside → Type 0
IsInside b = IsDrawn (drawn_of b)

-- the colours of a chain of acts behind its first
abbrev pub chain_behind : Shade → List Act → List Colour
chain_behind c [] = []
chain_behind c (a ∷ rest) = Hue (shifted c a).hue (shifted c a).light ∷ chain_behind (shifted c a) rest

abbrev pub chain : Shade → List Act → List Colour
chain c acts = Hue c.hue c.light ∷ chain_behind c acts

-- the colours of a lane from the column on
abbrev pub lane_colours : ℕ → List Act → List Colour
lane_colours i acts = chain (column_shade i 3) (act_Pop ∷ acts)

-- what is seen where these are the colours of the lane
abbrev pub seen_in : List Colour → Cell → Option Colour
seen_in colours Outside = None
seen_in colours Dark = Some Black
seen_in colours Light = Some White
seen_in colours (Column i r) = in_shade (column_shade i r)
seen_in colours (Lane i k) = cond (nat_lt k (length colours)) (slice_get colours k) (Some White)

-- the rows of a board
abbrev pub row_at : List (List Act) → ℕ → ℕ → ℕ → List Colour
row_at lanes reach start y = each_of (λ x. unwrap_or (board lanes reach start (record { x = x; y = y })) Black) (reach + 5)

abbrev pub rows_of : List (List Act) → ℕ → ℕ → List (List Colour)
rows_of lanes reach start = each_of (λ y. row_at lanes reach start y) (5 * length lanes + 6)

-- the text of a board
abbrev pub board_text : Drawn → List ℕ
board_text d = image_text (d.reach + 5) (rows_of (lanes_of d.lanes) d.reach d.start)

-- a text of at most 2^29 bytes that spells an image that runs the lanes
pub record IsBoardText (d : Drawn) (text : List ℕ) : Type 0 where
  pub few : length text ≤ 2 ^ 29
  pub image : Raster
  pub spells : Spells text 1 image
  pub runs : RunsLanes (picture_of image) (image_atlas image) (lanes_of d.lanes) d.start (AtEnd (lanes_of d.lanes) d.reach)

-- bytes are put as far as out and the memory allow
pub record PutsIf (old new : Outlet) (bytes : List ℕ) (result : Result (Unit {0}) WriteFault) : Type 0 where
  pub ok : OnOk result (Passes old.got new.got (old.held ++ bytes) new.held)
  pub err : OnErr result (GotPrefix old.got new.got (old.held ++ bytes))
  pub write : IsErrOf result Write → Rose old.faults new.faults
  pub later : old.faults ≤ new.faults
