-- The function of a format of `printf`, as a text has it, and what it writes.
use Rattle.std.specs.Prelude.{◌≡◌, ℕ, suc, ◌^◌, ◌<◌, ◌≤◌, Bool, true, ◌==◌, List, [], ◌∷◌, length, Some, if◌then◌else◌}
use Rattle.std.specs.List.{list_any}
use Rattle.c_types.specs.Types.{CType, Void, Int, Unsigned, Char, Pointer}
use Rattle.c_types.specs.Scope.{Names}
use Rattle.c_types.specs.Operands.{conversions_of}
use Rattle.c_eval.specs.State.{Value, State}
use Rattle.c_eval.specs.Text.{Text}
use Rattle.c_eval.specs.Helpers.{Helpers, helps_to}
use Rattle.c_helpers.specs.Functions.{refill_name, print_unsigned, print_hex, print_signed, print_string, format_name, argument_name, print_format}
use Rattle.c_helpers.specs.Fewer.{told}
use Rattle.c_helpers.specs.Meanings.{format_put}
use Rattle.c_valid.specs.Valid.{AreValid}
use Rattle.c_products.specs.MovesFound.{Parameter, Has, KnowsOf}
use Rattle.c_formats.specs.DigitsLaws.{unsigned_parameter, int_parameter, HasDigit, HasUnsigned, HasHex, HasSigned}
use Rattle.c_formats.specs.StringsLaws.{string_parameter, Known, HasString, KnowsUnit, KnowsPiece}

-- the type of the argument that a conversion writes
abbrev pub argument_type : ℕ → CType
argument_type letter = if letter == 115 then Pointer Char else if letter == 100 then Int else if letter == 99 then Int else Unsigned

-- a parameter for each conversion, numbered from one on
abbrev pub parameters_from : ℕ → List ℕ → List Parameter
parameters_from i [] = []
parameters_from i (letter ∷ letters) = (argument_name i, argument_type letter) ∷ parameters_from (suc i) letters

abbrev pub format_parameters : List ℕ → List Parameter
format_parameters letters = parameters_from 0 letters

-- among names, that of the second fuel has its meaning
abbrev pub KnowsRefill : Names → Type 0
KnowsRefill names = KnowsOf names Void [] (told refill_name [])

abbrev pub has_letter : List ℕ → ℕ → Bool
has_letter letters letter = list_any (λ other. other == letter) letters

-- a text has the function of a format with these conversions, and those that it calls
pub record HasFormat (h : Helpers) (t : Text) (format letters : List ℕ) : Type 0 where
  pub own : Has h t Void (format_parameters letters) (print_format format)
  pub unit : KnowsUnit own.names
  pub refill : KnowsRefill own.names
  pub piece : KnowsPiece own.names
  -- `%d`, `%u`, `%x` and `%s`, where the format has them
  pub signed : has_letter letters 100 ≡ true → HasDigit h t × HasUnsigned h t × HasSigned h t × KnowsOf own.names Void int_parameter print_signed
  pub unsigned : has_letter letters 117 ≡ true → HasDigit h t × HasUnsigned h t × KnowsOf own.names Void unsigned_parameter print_unsigned
  pub hex : has_letter letters 120 ≡ true → HasDigit h t × HasHex h t × KnowsOf own.names Void unsigned_parameter print_hex
  pub string : has_letter letters 115 ≡ true → HasString h t × KnowsOf own.names Void string_parameter print_string

-- a call of it by a function of the text does what `printf` does with the format, also where arguments are missing
abbrev pub FormatsAreWritten : Type 0
FormatsAreWritten = (h : Helpers) (t : Text) (format letters : List ℕ) → 2 ^ 9 ≤ h.ration → Known h → conversions_of format ≡ Some letters → length letters < 2 ^ 24 → HasFormat h t format letters
    → (input : List ℕ) (vs : List Value) (st : State) → AreValid vs → helps_to h t input (format_name format) (format_put format) vs st ≡ format_put format vs st
