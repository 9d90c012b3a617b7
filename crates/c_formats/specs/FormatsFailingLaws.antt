-- The functions of formats, where `printf` is undefined.
use Rattle.std.specs.Prelude.{◌≡◌, ℕ, ◌^◌, ◌<◌, ◌≤◌, List, length, Some}
use Rattle.c_types.specs.Operands.{conversions_of}
use Rattle.c_eval.specs.Text.{Text}
use Rattle.c_eval.specs.Helpers.{Helpers}
use Rattle.c_helpers.specs.Functions.{format_name}
use Rattle.c_helpers.specs.Meanings.{format_put}
use Rattle.c_formats.specs.StringsLaws.{Known}
use Rattle.c_formats.specs.Laws.{HasFormat}
use Rattle.c_failing.specs.Failing.{FailsAlike}

-- a use of the function of a format fails as `printf` does with it: where an argument is missing, is of another kind, or points to a string that can't be read to its zero
abbrev pub FormatsFail : Type 0
FormatsFail = (h : Helpers) (t : Text) (format letters : List ℕ) → 2 ^ 9 ≤ h.ration → Known h → conversions_of format ≡ Some letters → length letters < 2 ^ 24 → HasFormat h t format letters
    → (input : List ℕ) → FailsAlike h t input (format_name format) (format_put format)
