-- Programs with fewer operators are typed.
use Rattle.std.specs.Prelude.{◌≡◌, Ok}
use Rattle.c_syntax.specs.Plain.{CUnit}
use Rattle.c_types.specs.Scope.{Scope}
use Rattle.c_types.specs.Units.{all_items, start_scope}
use Rattle.c_helpers.specs.Simple.{desugared}
use Rattle.c_programs.specs.Programs.{IsProgram}

-- the externals of a program are typed with fewer operators: helper functions, and behind them those of the text, where what isn't reached is declared alone
abbrev pub ProgramsStayTyped : Type 0
ProgramsStayTyped = (u : CUnit) → IsProgram u → (end : Scope) × (all_items (start_scope (desugared u)) (desugared u).items ≡ Ok end)
