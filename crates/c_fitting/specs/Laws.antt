-- Typed texts have code.
use Rattle.std.specs.Prelude.{◌≡◌, true}
use Rattle.c_syntax.specs.Plain.{CUnit}
use Rattle.c_types.specs.Limits.{IsTyped, is_small}
use Rattle.c_fitting.specs.Whole.{UnitIsFit}
use Rattle.c_fitting.specs.Blocks.{UnitDeclaresInBlocks}

-- a typed text within the limits, in which declarations stand in blocks, is fit
abbrev pub TypedTextsAreFit : Type 0
TypedTextsAreFit = (u : CUnit) → IsTyped u → is_small u ≡ true → UnitDeclaresInBlocks u → UnitIsFit u
