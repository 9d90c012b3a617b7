-- The places of objects, one behind the other in the frame.
use Rattle.std.specs.Prelude.{◌≡◌, ℕ, ◌+◌, List, ◌++◌}
use Rattle.c_types.specs.Scope.{Scope}
use Rattle.c_eval.specs.State.{Cell}
use Rattle.c_emission.specs.declared.location.Location.{Location}
use Rattle.c_declared.specs.Held.{Holds, HoldsSome, IsAround}
use Rattle.c_lowered.specs.Locations.{framed}
use Rattle.c_lowered.specs.Statements.{words_in}
use Rattle.c_counted.specs.Numbers.{IsNumber}
use Rattle.c_addressing.specs.declared.here.Here.{Here}
use Rattle.c_addressing.specs.declared.here.Output.{Output}
use Rattle.c_addressing.specs.Places.{AreLocations}
use Rattle.c_applied.specs.Leads.{Keeps}

-- objects lie in the frame from one word up to another, and what a scope has is declared
pub record AreLaid (new : Output) (e : Here) (more : List Location) (behind n : ℕ) (reached : Scope) (objects : List (List Cell)) : Type 0 where
  pub holds : Holds new.types e.declared reached
  pub places : AreLocations more (framed objects n)
  pub free : IsNumber behind (n + words_in objects)

-- the objects that a scope tells got their places behind those that there were, and their names are declared
pub record Places (old new : Output) (h e : Here) (free behind : ℕ) (objects : Scope → List (List Cell)) (reached : Scope → Scope) : Type 0 where
  pub keeps : Keeps old new
  pub around : IsAround h.declared e.declared
  pub slots : e.slots ≡ h.slots
  pub entries : e.entries.entries ≡ h.entries.entries
  pub more : List Location
  pub bases : e.bases.items ≡ h.bases.items ++ more
  pub holds : HoldsSome new.types e.declared
  pub laid : (s : Scope) (n : ℕ) → Holds old.types h.declared s → IsNumber free n → AreLaid new e more behind n (reached s) (objects s)
