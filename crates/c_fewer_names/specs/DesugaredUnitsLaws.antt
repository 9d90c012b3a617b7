-- Programs with fewer operators are typed texts.
use Rattle.c_syntax.specs.Plain.{CUnit}
use Rattle.c_types.specs.Limits.{IsTyped}
use Rattle.c_helpers.specs.Simple.{desugared}
use Rattle.c_programs.specs.Programs.{IsProgram}

abbrev pub UnitsStayTyped : Type 0
UnitsStayTyped = (u : CUnit) → IsProgram u → IsTyped (desugared u)
