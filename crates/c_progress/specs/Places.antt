-- What the places of a production want.
use Rattle.std.specs.Prelude.{List, [], ◌∷◌, Option, Some, None}
use Rattle.c_grammar.specs.declared.names.Part.{Part}
use Rattle.c_grammar.specs.declared.names.Symbol.{Symbol}
use Rattle.c_grammar.specs.declared.names.Symbol.TheVariants.{Tok, One, Many, Maybe}
use Rattle.c_grammar.specs.declared.names.Terminal.{Terminal}

abbrev pub wanted_at : Symbol → Option Part
wanted_at (Tok k) = None
wanted_at (One n) = Some n
wanted_at (Many n) = Some n
wanted_at (Maybe n) = Some n

-- the token that stands first
abbrev pub first_terminal : List Symbol → Option Terminal
first_terminal (Tok k ∷ ss) = Some k
first_terminal _ = None

-- the part that stands first
abbrev pub first_part : List Symbol → Option Part
first_part (One n ∷ ss) = Some n
first_part _ = None

-- a place that takes a row
abbrev pub TakesRow : Symbol → Type 0
TakesRow (Many n) = Unit {0}
TakesRow (Maybe n) = Unit {0}
TakesRow _ = ⊥
