-- The functions of formats as a program has them.
use Rattle.std.specs.Prelude.{◌≡◌, ℕ, ◌+◌, ◌*◌, ◌^◌, ◌<◌, ◌≤◌, true, List, [], ◌∷◌, ◌++◌, length, Some, codes}
use Rattle.c_types.specs.Types.{Void, Tags}
use Rattle.c_types.specs.Operands.{conversions_of}
use Rattle.c_types.specs.Scope.{Names}
use Rattle.c_eval.specs.Text.{Definition, Text, function_named}
use Rattle.c_eval.specs.Helpers.{Helpers}
use Rattle.c_helpers.specs.Functions.{unit_name, refill_name, piece_name, format_name, print_format}
use Rattle.c_memory.specs.Follows.{worth}
use Rattle.c_landing.specs.Landing.{Setting}
use Rattle.c_followed.specs.Printed.{PrinterIs}
use Rattle.c_products.specs.MovesFound.{definition}
use Rattle.c_formats.specs.Laws.{format_parameters, has_letter}
use Rattle.c_compiled.specs.Helped.{IsRoutine, calls_pieces}

-- a function of a text is that of a format with these conversions: before its body stand what helper functions alone know, and the functions of its conversions other than `%c`
pub record IsFormat (format letters : List ℕ) (f : Definition) : Type 0 where
  pub conversions : conversions_of format ≡ Some letters
  pub few : length letters < 2 ^ 24
  pub tags : Tags
  pub names : Names
  pub defined : List (List ℕ)
  pub is : f ≡ definition Void (format_parameters letters) (print_format format) tags names defined
  pub unit : IsRoutine names unit_name
  pub refill : IsRoutine names refill_name
  pub piece : IsRoutine names piece_name
  pub converts : (letter : ℕ) → has_letter letters letter ≡ true → (letter ≡ 99 → ⊥) → IsRoutine names (codes "%" ++ letter ∷ [])

-- it prints, with a frame in its caller's alone, where a unit of the run pays for 30 operations and two second fuels for each byte of the format
abbrev pub FormatsPrint : Type 0
FormatsPrint =
    (S : Setting) (t : Text) (h : Helpers) (pieces rate : ℕ) (format letters : List ℕ) (f : Definition) → IsFormat format letters f → function_named t (format_name format) ≡ Some f
    → worth (30 + 2 * pieces) (length format) ≤ rate → PrinterIs S t h pieces rate calls_pieces (format_name format) f
