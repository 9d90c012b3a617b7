-- The functions of a program that print, where what they stand for is undefined.
use Rattle.std.specs.Prelude.{◌≡◌, ℕ, true, List, Some, is_some}
use Rattle.c_syntax.specs.Plain.{CUnit}
use Rattle.c_eval.specs.State.{Value, Run}
use Rattle.c_eval.specs.Text.{text_of, function_named}
use Rattle.c_helpers.specs.Meanings.{stands_for}
use Rattle.c_helpers.specs.Simple.{desugared, helpers_of}
use Rattle.c_worlds.specs.Silent.{prints}
use Rattle.c_programs.specs.Programs.{IsProgram}
use Rattle.c_rates.specs.Rates.{ration}
use Rattle.c_failing.specs.Failing.{FailsAlike}

-- the functions of a program that print, that of `puts` and those of formats, fail as what they stand for
abbrev pub PrintersFail : CUnit → List ℕ → Type 0
PrintersFail u input =
    (name : List ℕ) (operator : List Value → Run Value) → prints name ≡ true → stands_for name ≡ Some operator → is_some (function_named (text_of (desugared u)) name) ≡ true → FailsAlike (helpers_of ration u) (text_of (desugared u)) input name operator

-- so it is in each program, on each input
abbrev pub ProgramsPrintersFail : Type 0
ProgramsPrintersFail = (u : CUnit) (input : List ℕ) → IsProgram u → PrintersFail u input
