-- Texts of C and programs.
use Rattle.std.specs.Prelude.{ℕ, List}
use Rattle.c_syntax.specs.Plain.{CUnit}
use Rattle.c_valid.specs.Valid.{AreBytes}
use Rattle.c_source.specs.Source.{Spells}
use Rattle.c_programs.specs.Programs.{IsProgram}

-- the typed unit that a text of bytes spells is a program
abbrev pub TextsArePrograms : Type 0
TextsArePrograms = (text : List ℕ) (u : CUnit) → AreBytes text → Spells text u → IsProgram u
