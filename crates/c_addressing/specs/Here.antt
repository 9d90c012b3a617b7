-- Where code stands, and the code that is added there.
use Rattle.std.specs.Prelude.{◌≡◌, ℕ, ◌+◌, List, [], ◌∷◌, ◌++◌, drop, Option, Some, None}
use Rattle.c_syntax.specs.Words.{meaning}
use Rattle.c_eval.specs.Environment.{Environment}
use Rattle.eir_core.specs.declared.ops.Op.{Op}
use Rattle.c_types.specs.Table.{known}
use Rattle.c_types.specs.Known.{Grows}
use Rattle.c_declared.specs.Held.{Holds}
use Rattle.c_lowered.specs.Locations as plain
use Rattle.c_lowered.specs.Locations.{Linking}
use Rattle.c_counted.specs.Numbers.{IsNumber}
use Rattle.c_addressing.specs.declared.here.Here as rust
use Rattle.c_addressing.specs.declared.here.Literals.{Literals}
use Rattle.c_addressing.specs.declared.here.Output.{Output}
use Rattle.c_addressing.specs.declared.spots.Known.{Known}
use Rattle.c_addressing.specs.declared.spots.Spot.{Spot}
use Rattle.c_addressing.specs.Names.{slot_of, entry_in}
use Rattle.c_addressing.specs.Places.{IsLocation, AreLocations, IsDirect}

-- the first of some numbers, or another one
abbrev pub first_or : ℕ → List ℕ → ℕ
first_or other [] = other
first_or other (n ∷ ns) = n

-- the addresses of a function's literals behind so many of them
pub record AreLiterals (l : Literals) (w : Linking) (before : ℕ) : Type 0 where
  pub address : (n : ℕ) → IsNumber (first_or l.end (drop n l.next.now)) (w.literal w.owner (before + n))

-- the code knows what is declared, and where all lies
pub record IsHere (h : rust.Here) (out : Output) (w : Linking) (here : Environment) : Type 0 where
  pub holds : Holds out.types h.declared here.scope
  pub slots : (name : List ℕ) → slot_of (meaning (h.slots.block ++ h.slots.outer) name) ≡ meaning here.objects name
  pub bases : AreLocations h.bases.items w.bases
  pub entries : (name : List ℕ) → IsNumber (entry_in h.entries.entries name) (w.entry name)
  pub literals : AreLiterals out.literals w here.literals_before

-- literals behind so many others
pub record IsBehind (old new : Literals) (count : ℕ) : Type 0 where
  pub next : new.next.now ≡ drop count old.next.now
  pub end : new.end ≡ old.end

-- code was added in which so many literals stand
pub record Emits (old new : Output) (code : List Op) (literals : ℕ) : Type 0 where
  pub grows : Grows (known old.types) (known new.types)
  pub tags : new.types.tags ≡ old.types.tags
  pub ops : new.ops.items ≡ old.ops.items ++ code
  pub passed : IsBehind old.literals new.literals literals

-- a known place is that of the definitions, with the literals behind its expression
abbrev pub IsSpot : Literals → ℕ → Option Spot → Option plain.Location → Type 0
IsSpot l count (Some s) (Some p) = IsLocation s.place p × IsBehind l s.literals count
IsSpot l count None None = Unit {0}
IsSpot l count _ _ = ⊥

-- a known value likewise
abbrev pub IsKnown : Literals → ℕ → Option Known → Option plain.Direct → Type 0
IsKnown l count (Some k) (Some d) = IsDirect k.value d × IsBehind l k.literals count
IsKnown l count None None = Unit {0}
IsKnown l count _ _ = ⊥
