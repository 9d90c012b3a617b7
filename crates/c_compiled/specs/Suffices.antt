-- The room of a program of C suffices for what it is lowered to.
use Rattle.std.specs.Prelude.{◌≤◌, ◌<◌, ◌^◌}
use Rattle.eir_core.specs.Eir.{size_of}
use Rattle.c_syntax.specs.Plain.{CUnit}
use Rattle.c_types.specs.Room.{room_of}
use Rattle.c_fitting.specs.Blocks.{UnitDeclaresInBlocks}
use Rattle.c_helpers.specs.Simple.{desugared}
use Rattle.c_lowered.specs.Whole.{lowered}
use Rattle.c_programs.specs.Programs.{IsProgram}

abbrev pub RoomSuffices : Type 0
RoomSuffices = (u : CUnit) → IsProgram u → UnitDeclaresInBlocks u → size_of (lowered (desugared u)) ≤ room_of u

abbrev pub ProgramsAreSmall : Type 0
ProgramsAreSmall = (u : CUnit) → IsProgram u → UnitDeclaresInBlocks u → size_of (lowered (desugared u)) < 2 ^ 21
