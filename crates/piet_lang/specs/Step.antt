-- One step of a picture.
use Rattle.std.specs.Prelude.{ℕ, zero, suc, Bool, true, false, ℤ, List, [], ◌∷◌, Option, Some, None, unwrap_or, if◌then◌else◌}
use Rattle.std.specs.Fmt.{signed_decimal}
use Rattle.mach_core.specs.Integer.{byte_of}
use Rattle.mach_core.specs.declared.machine.Status.{Status}
use Rattle.mach_core.specs.declared.machine.Status.TheVariants.{Going, Ended, Fault}
use Rattle.mach_core.specs.Rule.{Rule}
use Rattle.piet_image.specs.declared.colour.Colour.{Colour}
use Rattle.piet_image.specs.declared.colour.Colour.TheVariants.{White, Black, Hue}
use Rattle.piet_image.specs.declared.place.Place.{Place}
use Rattle.piet_image.specs.declared.place.Stand.{Stand}
use Rattle.piet_image.specs.declared.place.Pointer.{Pointer}
use Rattle.piet_image.specs.declared.place.Pointer.TheVariants.{Right}
use Rattle.piet_image.specs.declared.place.Chooser.{Chooser}
use Rattle.piet_image.specs.declared.place.Chooser.TheVariants.{ToLeft}
use Rattle.piet_image.specs.declared.met.Met.{Met}
use Rattle.piet_image.specs.declared.met.Met.TheVariants.{Blocked, Free, Onto}
use Rattle.piet_image.specs.Picture.{Picture, ahead, turned, toggled}
use Rattle.piet_image.specs.Block.{Atlas}
use Rattle.piet_lang.specs.declared.act.Act.{Act}
use Rattle.piet_lang.specs.declared.act.Act.TheVariants.{InNumber, InChar, OutNumber, OutChar}
use Rattle.piet_lang.specs.declared.act.Departure.{Departure}
use Rattle.piet_lang.specs.declared.number.Seen.{Seen}
use Rattle.piet_lang.specs.declared.number.Seen.TheVariants.{Blanks, Digits, Outside}
use Rattle.piet_lang.specs.declared.number.Progress.{Progress}
use Rattle.piet_lang.specs.declared.number.Progress.TheVariants.{On, Closed}
use Rattle.piet_lang.specs.Number.{after_blanks, after_digits}
use Rattle.piet_lang.specs.Act.{act_between, after_act, turns_of, toggles_of, act_fits}

-- where the run stands, its values with the top first, how much it has seen of a number that it reads, and how it stands
pub record Config : Type 0 where
  pub at : Stand
  pub stack : List ℤ
  pub reading : Option Seen
  pub standing : Status

abbrev pub sliding : Option Stand → Option Departure
sliding None = None
sliding (Some to) = Some (record { act = None; to = to })

-- what an attempt comes to by what it meets: None where it fails, and Some None where it ends the run
abbrev pub attempt_on : (Stand → Option Stand) → ℕ → ℕ → Stand → Met → Option (Option Departure)
attempt_on slid hue light s Blocked = None
attempt_on slid hue light s (Free q) = Some (sliding (slid (record { place = q; pointer = s.pointer; chooser = s.chooser })))
attempt_on slid hue light s (Onto q hue' light') = Some (Some (record { act = act_between hue light hue' light'; to = record { place = q; pointer = s.pointer; chooser = s.chooser } }))

abbrev pub or_else : {A : Type 0} → Option A → Option A → Option A
or_else None b = b
or_else (Some a) b = Some a

abbrev pub turned_by : ℕ → Pointer → Pointer
turned_by zero d = d
turned_by (suc n) d = turned (turned_by n d)

abbrev pub toggled_by : ℕ → Chooser → Chooser
toggled_by zero c = c
toggled_by (suc n) c = toggled (toggled_by n c)

abbrev pub toggle : Stand → Stand
toggle s = record { place = s.place; pointer = s.pointer; chooser = toggled s.chooser }

abbrev pub turn : Stand → Stand
turn s = record { place = s.place; pointer = turned s.pointer; chooser = s.chooser }

abbrev pub takes : Option Act → Bool
takes (Some InChar) = true
takes _ = false

-- the bytes that a command writes
abbrev pub bytes_of : Option Act → List ℤ → List ℕ
bytes_of (Some OutChar) (v ∷ stack) = byte_of v ∷ []
bytes_of (Some OutNumber) (v ∷ stack) = signed_decimal v
bytes_of _ stack = []

abbrev pub act_taken : Option Departure → Option Act
act_taken None = None
act_taken (Some d) = d.act

-- a command that reads a number has seen nothing of it yet
abbrev pub reading_of : Act → Option Seen
reading_of InNumber = Some Blanks
reading_of _ = None

abbrev pub at_fault : Config → Config
at_fault c = record c { standing = Fault 1 }

-- a command is executed by which the run leaves a block of this size, and the run stands at another place
abbrev pub acted : ℕ → Config → Act → Stand → ℕ → Config
acted size c act to byte =
    if act_fits act c.stack then
    record {
      at = record { place = to.place; pointer = turned_by (turns_of act c.stack) to.pointer; chooser = toggled_by (toggles_of act c.stack) to.chooser };
      stack = after_act act size byte c.stack;
      reading = reading_of act;
      standing = c.standing;
    }
    else at_fault c

-- a number of which so much was seen goes on, or is pushed
abbrev pub read_to : Config → Progress → Config
read_to c (On seen) = record c { reading = Some seen }
read_to c (Closed value) = record c { stack = value ∷ c.stack; reading = None }

abbrev pub reading_next : Config → Seen → ℕ → Config
reading_next c Blanks byte = read_to c (after_blanks byte)
reading_next c (Digits negative n) byte = read_to c (after_digits negative n byte)
reading_next c Outside byte = at_fault c

abbrev pub reading_takes : Seen → Bool
reading_takes Blanks = true
reading_takes (Digits negative n) = true
reading_takes Outside = false

module _ (f : Picture) (atlas : Atlas f) where
  -- from a codel of a colour
  abbrev pub attempt : ℕ → ℕ → Stand → Option (Option Departure)
  attempt hue light s = attempt_on atlas.slid hue light s (ahead f s.pointer (atlas.exit s.place s.pointer s.chooser))

  -- two attempts for each way of the pointer
  unfoldable pub attempts : ℕ → ℕ → ℕ → Stand → Option (Option Departure)
  attempts zero hue light s = None
  attempts (suc more) hue light s = or_else (attempt hue light s) (or_else (attempt hue light (toggle s)) (attempts more hue light (turn (toggle s))))

  abbrev pub departure_at : Stand → Option Colour → Option Departure
  departure_at s None = None
  departure_at s (Some Black) = None
  departure_at s (Some White) = sliding (atlas.slid s)
  departure_at s (Some (Hue hue light)) = unwrap_or (attempts 4 hue light s) None

  -- how the run leaves where it stands, if it does
  abbrev pub departure : Stand → Option Departure
  departure s = departure_at s (f s.place)

  abbrev pub departed_by : Config → Stand → Option Act → ℕ → Config
  departed_by c to None byte = record c { at = to }
  departed_by c to (Some act) byte = acted (atlas.size c.at.place) c act to byte

  abbrev pub departed : Config → Option Departure → ℕ → Config
  departed c None byte = record c { standing = Ended }
  departed c (Some d) byte = departed_by c d.to d.act byte

  abbrev pub next_of : Config → Option Seen → ℕ → Config
  next_of c None byte = departed c (departure c.at) byte
  next_of c (Some seen) byte = reading_next c seen byte

  abbrev pub wants_of : Config → Option Seen → Bool
  wants_of c None = takes (act_taken (departure c.at))
  wants_of c (Some seen) = reading_takes seen

  abbrev pub written_of : Config → Option Seen → List ℕ
  written_of c None = bytes_of (act_taken (departure c.at)) c.stack
  written_of c (Some seen) = []

  abbrev pub piet_rule : Rule Config
  piet_rule = record {
    standing = λ c. c.standing;
    wants = λ c. wants_of c c.reading;
    next = λ c byte. next_of c c.reading byte;
    written = λ c byte. written_of c c.reading;
  }

abbrev pub first_standing : Option Colour → Status
first_standing (Some Black) = Ended
first_standing _ = Going

abbrev pub corner : Place
corner = record { x = 0; y = 0 }

-- at the top left codel, looking right, with the chooser to the left
abbrev pub piet_start : Picture → Config
piet_start f = record { at = record { place = corner; pointer = Right; chooser = ToLeft }; stack = []; reading = None; standing = first_standing (f corner) }
