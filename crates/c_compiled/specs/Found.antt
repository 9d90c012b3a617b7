-- Helper functions as a program has them, found in a text.
use Rattle.std.specs.Prelude.{◌≡◌, ℕ, Bool, true, List, Some}
use Rattle.c_syntax.specs.Plain.{CUnit}
use Rattle.c_eval.specs.Text.{Definition, Text, function_named}
use Rattle.c_helpers.specs.Functions.{functions, format_name}
use Rattle.c_helpers.specs.Simple.{charge_in, helpers_of}
use Rattle.c_fewer_calls.specs.There.{HasHelpers}
use Rattle.c_compiled.specs.Helped.{plain_functions, HelpersAreIn}
use Rattle.c_compiled.specs.Formatted.{IsFormat}

-- the functions of a text are among those that are kept
abbrev pub FunctionsAreKept : Text → (List ℕ → Bool) → Type 0
FunctionsAreKept t kept = (name : List ℕ) (f : Definition) → function_named t name ≡ Some f → kept name ≡ true

-- a text that has each helper function that is kept has them as they are, with their frames as charges
abbrev pub FoundHelpersAreHelpers : Type 0
FoundHelpersAreHelpers = (u : CUnit) (ration : ℕ) (t : Text) (kept : List ℕ → Bool) → HasHelpers (helpers_of ration u) t kept → FunctionsAreKept t kept → HelpersAreIn t (charge_in u) functions × HelpersAreIn t (charge_in u) plain_functions

-- and the functions of formats
abbrev pub FoundFormatsAreFormats : Type 0
FoundFormatsAreFormats =
    (u : CUnit) (ration : ℕ) (t : Text) (kept : List ℕ → Bool) → HasHelpers (helpers_of ration u) t kept → FunctionsAreKept t kept → (format : List ℕ) (f : Definition) → function_named t (format_name format) ≡ Some f → (letters : List ℕ) × IsFormat format letters f
