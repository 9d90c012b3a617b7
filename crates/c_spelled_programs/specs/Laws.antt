-- Units that tokens of a text spell.
use Rattle.std.specs.Prelude.{◌≡◌, true, List}
use Rattle.c_syntax.specs.declared.token.Token.{Token}
use Rattle.c_syntax.specs.Plain.{CUnit}
use Rattle.c_types.specs.Limits.{is_small, IsTyped}
use Rattle.c_grammar.specs.Spells.{IsUnitWithin}
use Rattle.c_spelled_programs.specs.Tokens.{AreOfText}
use Rattle.c_programs.specs.Programs.{IsProgram}

-- a typed unit within the limits is a program, where its tokens have names of letters, digits and `_` and strings of bytes
abbrev pub SpelledUnitsArePrograms : Type 0
SpelledUnitsArePrograms = (ts : List Token) (u : CUnit) → AreOfText ts → IsUnitWithin ts u → IsTyped u → is_small u ≡ true → IsProgram u
