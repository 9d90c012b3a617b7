-- Tokens that a text can have.
use Rattle.std.specs.Prelude.{◌≡◌, ℕ, List, [], ◌∷◌, Ok}
use Rattle.c_syntax.specs.declared.token.Kind.{Kind}
use Rattle.c_syntax.specs.declared.token.Kind.TheVariants as kind
use Rattle.c_syntax.specs.declared.token.Token.{Token}
use Rattle.c_prep.specs.Prepared.{prepared}
use Rattle.c_valid.specs.Valid.{AreBytes}
use Rattle.c_fewer_types.specs.Standing.{IsTextName}

-- a name of letters, digits and `_`, a string of bytes, or no name and no string
abbrev pub KindIsOfText : Kind → Type 0
KindIsOfText (kind.Name name) = IsTextName name
KindIsOfText (kind.Str text) = AreBytes text
KindIsOfText k = Unit {0}

abbrev pub AreOfText : List Token → Type 0
AreOfText [] = Unit {0}
AreOfText (t ∷ ts) = KindIsOfText t.kind × AreOfText ts

-- the tokens of a text of bytes, its directives obeyed and its macros expanded, are such
abbrev pub TokensAreOfText : Type 0
TokensAreOfText = (text : List ℕ) (ts : List Token) → AreBytes text → prepared text ≡ Ok ts → AreOfText ts
