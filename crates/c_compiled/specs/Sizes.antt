-- The size of a typed text's program is at most the text's cost.
use Rattle.std.specs.Prelude.{◌≤◌}
use Rattle.eir_core.specs.Eir.{size_of}
use Rattle.c_syntax.specs.Plain.{CUnit}
use Rattle.c_types.specs.Limits.{IsTyped}
use Rattle.c_fitting.specs.Blocks.{UnitDeclaresInBlocks}
use Rattle.c_helpers.specs.Cost.{unit_cost}
use Rattle.c_lowered.specs.Whole.{lowered}

abbrev pub SizesFitCosts : Type 0
SizesFitCosts = (v : CUnit) → IsTyped v → UnitDeclaresInBlocks v → size_of (lowered v) ≤ unit_cost v
