-- Parameters of a function, whose names have numbers behind those of file scope, and which lie behind the frame's first word.
use Rattle.std.specs.Prelude.{◌≡◌, ℕ, zero, suc, List, [], ◌∷◌, ◌++◌, length, Option}
use Rattle.c_syntax.specs.Words.{meaning}
use Rattle.c_syntax.specs.declared.tree.Decl.{Decl}
use Rattle.c_scopes.specs.declared.entity.Entity.{Entity}
use Rattle.c_scopes.specs.declared.entity.Entity.TheVariants.{Object}
use Rattle.c_scopes.specs.Blocks.{Blocks}
use Rattle.c_emission.specs.declared.location.Location.{Location}
use Rattle.c_lowered.specs.Locations as plain
use Rattle.c_lowered.specs.Whole.{parameter_names, parameter_bases}
use Rattle.c_addressing.specs.declared.here.Here.{Here}
use Rattle.c_addressing.specs.Names.{slot_of}
use Rattle.c_addressing.specs.Places.{AreLocations}

-- names have the numbers of the definitions
abbrev pub HaveNumbers : Blocks → List (List ℕ × Option ℕ) → Type 0
HaveNumbers slots objects = (name : List ℕ) → slot_of (meaning (slots.block ++ slots.outer) name) ≡ meaning objects name

-- names, each with its number from one on
abbrev pub numbered : List Decl → ℕ → List (List ℕ × Entity)
numbered [] n = []
numbered (d ∷ ds) n = (d.name, Object n) ∷ numbered ds (suc n)

-- so many words of a frame, one behind the other from one on
abbrev pub words_at : ℕ → ℕ → List plain.Location
words_at zero d = []
words_at (suc n) d = plain.Framed d ∷ words_at n (suc d)

-- so many places more, which are the words of a frame from its second on
pub record PlacesWords (old new : List Location) (count : ℕ) : Type 0 where
  pub more : List Location
  pub behind : new ≡ old ++ more
  pub many : length more ≡ count
  pub are : AreLocations more (words_at count 1)

-- the parameters of these names are known besides what was known before
pub record KnowsParameters (h e : Here) (params : List (List ℕ)) : Type 0 where
  pub slots : (objects : List (List ℕ × Option ℕ)) → HaveNumbers h.slots objects → HaveNumbers e.slots (parameter_names params (length h.bases.items) ++ objects)
  pub bases : (places : List plain.Location) → AreLocations h.bases.items places → AreLocations e.bases.items (places ++ parameter_bases params 1)
  pub more : List Location
  pub behind : e.bases.items ≡ h.bases.items ++ more
  pub declared : e.declared ≡ h.declared
  pub entries : e.entries ≡ h.entries
  pub outer : e.slots.outer ≡ h.slots.block ++ h.slots.outer
