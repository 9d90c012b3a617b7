-- The function of a format is typed where those are known that it calls.
use Rattle.std.specs.Prelude.{◌≡◌, ℕ, ◌<◌, ◌^◌, Bool, true, false, List, length, Some, None, Ok}
use Rattle.c_syntax.specs.Plain.{Function}
use Rattle.c_syntax.specs.Words.{meaning}
use Rattle.c_types.specs.Scope.{Scope, Routine, with_name}
use Rattle.c_types.specs.Operands.{conversions_of}
use Rattle.c_types.specs.Units.{item_judged}
use Rattle.c_helpers.specs.Functions.{print_format, format_name}
use Rattle.c_helpers.specs.Fewer.{function_of}
use Rattle.c_fewer_types.specs.Stands.{function_type}
use Rattle.c_fewer_items.specs.FewerHeadsLaws.{KnowsCalls}

-- a format that `printf` takes, of fewer than 2^24 conversions, has a function that is typed, and known behind it
abbrev pub FormatsAreTyped : Type 0
FormatsAreTyped =
    (format letters : List ℕ) → conversions_of format ≡ Some letters → length letters < 2 ^ 24 → (begun : List ℕ → Bool) (s : Scope) → KnowsCalls begun s (print_format format)
    → item_judged s (function_of (print_format format)) ≡ Ok (with_name s (format_name format) (Routine (function_type (print_format format)) true))

-- so it is where it is declared alone
abbrev pub FormatsAreDeclared : Type 0
FormatsAreDeclared =
    (format letters : List ℕ) → conversions_of format ≡ Some letters → length letters < 2 ^ 24 → (s : Scope) → meaning s.block (format_name format) ≡ None
    → item_judged s (Function (format_name format) 0 (print_format format).result (print_format format).params None) ≡ Ok (with_name s (format_name format) (Routine (function_type (print_format format)) false))
