-- Where declarations stand.
use Rattle.std.specs.Prelude.{List}
use Rattle.c_syntax.specs.declared.token.Token.{Token}
use Rattle.c_syntax.specs.Plain.{CUnit}
use Rattle.c_grammar.specs.Spells.{IsUnitWithin}
use Rattle.c_fitting.specs.Blocks.{UnitDeclaresInBlocks}

-- in a unit that tokens spell, declarations stand in blocks
abbrev pub UnitsDeclareInBlocks : Type 0
UnitsDeclareInBlocks = (ts : List Token) (u : CUnit) → IsUnitWithin ts u → UnitDeclaresInBlocks u
