-- What stands at the places of a production.
use Rattle.std.specs.Prelude.{List, [], ◌∷◌}
use Rattle.c_grammar.specs.declared.names.Part.{Part as Wanted}
use Rattle.c_grammar.specs.declared.names.Part.TheVariants.{Spec}
use Rattle.c_grammar.specs.declared.names.Production.{Production}
use Rattle.c_grammar.specs.declared.names.Production.TheVariants.{ConstSpec, WordSpec, SignSpec, StructSpec}
use Rattle.c_grammar.specs.declared.names.Symbol.{Symbol}
use Rattle.c_grammar.specs.declared.names.Symbol.TheVariants.{Tok, One, Many, Maybe}
use Rattle.c_held.specs.declared.value.Meaning.{Meaning}
use Rattle.c_held.specs.declared.value.Meaning.TheVariants.{Words}
use Rattle.c_held.specs.declared.value.Value.{Value}
use Rattle.c_held.specs.declared.value.Value.TheVariants.{Token, Part, Row}

-- the words of a type
abbrev pub AreWords : Meaning → Type 0
AreWords (Words base pos bare tag) = Unit {0}
AreWords _ = ⊥

-- what is wanted as the words of a type is
abbrev pub MeetsPart : Wanted → Meaning → Type 0
MeetsPart (Spec e) m = AreWords m
MeetsPart _ m = Unit {0}

-- a token stands at a token's place, a part at a part's, and a row elsewhere
abbrev pub StandsAt : Symbol → Value → Type 0
StandsAt (Tok k) (Token t) = Unit {0}
StandsAt (One n) (Part m) = MeetsPart n m.meaning
StandsAt (Many n) (Row ms) = Unit {0}
StandsAt (Maybe n) (Row ms) = Unit {0}
StandsAt _ _ = ⊥

-- these stand at the first places
abbrev pub StandAt : List Symbol → List Value → Type 0
StandAt ss [] = Unit {0}
StandAt [] (v ∷ vs) = ⊥
StandAt (s ∷ ss) (v ∷ vs) = StandsAt s v × StandAt ss vs

-- no row
abbrev pub IsOne : Value → Type 0
IsOne (Row ms) = ⊥
IsOne _ = Unit {0}

-- a part that is the words of a type
abbrev pub IsWords : Value → Type 0
IsWords (Part m) = AreWords m.meaning
IsWords _ = ⊥

-- the words of a type are the words of a type
abbrev pub Becomes : Production → Meaning → Type 0
Becomes (ConstSpec e) m = AreWords m
Becomes (WordSpec e) m = AreWords m
Becomes (SignSpec e) m = AreWords m
Becomes (StructSpec e) m = AreWords m
Becomes _ m = Unit {0}
