-- What is emitted for a program of C behaves as the program.
use Rattle.std.specs.Prelude.{ℕ, List}
use Rattle.c_syntax.specs.Plain.{CUnit}
use Rattle.c_valid.specs.Valid.{AreBytes}
use Rattle.c_programs.specs.Programs.{IsProgram}
use Rattle.c_fitting.specs.Blocks.{UnitDeclaresInBlocks}
use Rattle.c_compiled.specs.Compiled.{IsCompiled}
pub use Rattle.c_compiled.specs.Compiled.{compiled}

abbrev pub ProgramsAreCompiled : Type 0
ProgramsAreCompiled = (u : CUnit) (input : List ℕ) → IsProgram u → UnitDeclaresInBlocks u → AreBytes input → IsCompiled u input
