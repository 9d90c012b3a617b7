-- Helper functions as a program has them, and what their code asks of them.
use Rattle.std.specs.Prelude.{◌≡◌, ℕ, ◌+◌, ◌*◌, ◌^◌, ◌<◌, ◌≤◌, Bool, true, false, ◌||◌, List, [], ◌∷◌, ◌++◌, map, Some, None, codes}
use Rattle.std.specs.Str.{bytes_eq}
use Rattle.mach_core.specs.Rule.{input_at}
use Rattle.c_syntax.specs.Plain as plain
use Rattle.c_syntax.specs.Plain.{CTy}
use Rattle.c_syntax.specs.Words.{meaning}
use Rattle.c_types.specs.Types.{CType, CTypes, Void, Int, Unsigned, Char, Pointer, Tags}
use Rattle.c_types.specs.Scope.{Names, Routine, built_in, contains}
use Rattle.c_eval.specs.State.{Value, Run}
use Rattle.c_eval.specs.Environment.{Callee, Direct, Known, Through}
use Rattle.c_eval.specs.Text.{Definition, Text, function_named}
use Rattle.c_eval.specs.Helpers.{Helpers, helper_world}
use Rattle.c_helpers.specs.Functions.{Helper, operator_functions, compounds, pointer_functions, digit, print_unsigned, print_hex, print_signed, print_string, put_string, unit_name, refill_name, piece_name}
use Rattle.c_helpers.specs.Laws.{function_names}
use Rattle.c_helpers.specs.Meanings.{known_to_helpers}
use Rattle.c_helpers.specs.Names.{stmt_names}
use Rattle.c_helpers.specs.Simple.{helper_frame}
use Rattle.c_lowered.specs.Counts.{is_known_to_helpers}
use Rattle.c_memory.specs.Follows.{worth}
use Rattle.c_landing.specs.Landing.{Setting}
use Rattle.c_followed.specs.Bodies.{FunctionIs}
use Rattle.c_followed.specs.Framed.{MayCall}
use Rattle.c_followed.specs.Used.{IsCalled}
use Rattle.c_followed.specs.Printed.{PrinterIs}
use Rattle.c_followed.specs.Spelled.{SpellerIs}
use Rattle.c_products.specs.MovesFound.{Parameter, definition}

-- ---- helper functions in a text

-- the types that helper functions write
abbrev pub type_written : CTy → CType
type_written plain.Int = Int
type_written plain.Unsigned = Unsigned
type_written plain.Char = Char
type_written (plain.Pointer t) = Pointer (type_written t)
type_written _ = Void

abbrev pub parameters : Helper → List Parameter
parameters h = map (λ d. (d.name, type_written d.ty)) h.params

-- among names, this one is that of a function of the text
pub record IsRoutine (names : Names) (name : List ℕ) : Type 0 where
  pub type : CType
  pub begun : Bool
  pub means : meaning names name ≡ Some (Routine type begun)

-- a function of a text is this helper function: before its body, each helper function that it names is a function of the text, and `putchar` is known
pub record IsHelper (h : Helper) (f : Definition) : Type 0 where
  pub tags : Tags
  pub names : Names
  pub defined : List (List ℕ)
  pub is : f ≡ definition (type_written h.result) (parameters h) h tags names defined
  pub knows : (name : List ℕ) → contains (stmt_names h.body) name ≡ true → contains (unit_name ∷ refill_name ∷ piece_name ∷ function_names) name ≡ true → IsRoutine names name
  pub writes : meaning names (codes "putchar") ≡ Some (built_in Int (Int ∷ []))

-- those of these helper functions that a text has are so, and their charges are at least their frames
abbrev pub HelpersAreIn : Text → (charge : List ℕ → ℕ) → List Helper → Type 0
HelpersAreIn t charge [] = Unit {0}
HelpersAreIn t charge (h ∷ hs) = ((f : Definition) → function_named t h.name ≡ Some f → IsHelper h f × (helper_frame h ≤ charge h.name)) × HelpersAreIn t charge hs

-- ---- what they call

-- those that write no string, and spend no unit of the run
abbrev pub plain_functions : List Helper
plain_functions = operator_functions ++ (compounds ++ (pointer_functions ++ (digit ∷ print_unsigned ∷ print_hex ∷ print_signed ∷ [])))

abbrev pub is_plain : List ℕ → Bool
is_plain name = contains (map (λ h. h.name) plain_functions) name

-- they call each other, and `putchar`
abbrev pub calls_plain : Callee → Bool
calls_plain (Direct name params) = is_plain name
calls_plain (Known name params) = bytes_eq name (codes "putchar")
calls_plain _ = false

-- the others call them, `%s` and what helper functions alone know
abbrev pub calls_pieces : Callee → Bool
calls_pieces (Direct name params) = is_plain name || bytes_eq name print_string.name || is_known_to_helpers name
calls_pieces _ = false

-- where the input is bytes, what plain helper functions call is what code may call, and nothing that helper functions alone know
pub record PlainCallsAre (S : Setting) : Type 0 where
  pub can : MayCall S calls_plain
  pub through : (params : CTypes) → calls_plain (Through params) ≡ false
  pub unknown : (ration : ℕ) (name : List ℕ) (params : CTypes) → calls_plain (Direct name params) ≡ true → known_to_helpers ration name ≡ None

-- ---- what their code asks

-- a plain helper function is as code asks, in a frame of its charge, where a unit of the second fuel pays for 1021 operations
abbrev pub PlainHelpersAre : Type 0
PlainHelpersAre =
    (S : Setting) (t : Text) (charge : List ℕ → ℕ) (spare_rate : ℕ) → HelpersAreIn t charge plain_functions → 1021 ≤ spare_rate
    → (name : List ℕ) (f : Definition) (calls : List ℕ → List Value → Run Value) → IsCalled t calls_plain name f → FunctionIs S (helper_world t S.input name calls) 0 calls_plain (charge name) spare_rate f

abbrev pub CallsOfPlainHelpers : Type 0
CallsOfPlainHelpers = (S : Setting) → ((i : ℕ) → input_at S.input i < 2 ^ 24) → PlainCallsAre S

-- the function of `%s` spells a string, where a unit of the run pays for 30 operations more than a second fuel
abbrev pub StringsAreSpelled : Type 0
StringsAreSpelled =
    (S : Setting) (t : Text) (h : Helpers) (rate spare_rate : ℕ) (f : Definition) → function_named t print_string.name ≡ Some f → IsHelper print_string f → helper_frame print_string ≤ h.charge print_string.name
    → 1021 ≤ spare_rate → 30 + worth spare_rate h.ration ≤ rate → SpellerIs S t h rate spare_rate calls_plain print_string.name f

-- that of `puts` prints, where a unit of the run pays for 60 operations more than two second fuels
abbrev pub StringsArePut : Type 0
StringsArePut =
    (S : Setting) (t : Text) (h : Helpers) (pieces rate : ℕ) (f : Definition) → function_named t put_string.name ≡ Some f → IsHelper put_string f → helper_frame put_string ≤ h.charge put_string.name
    → 60 + 2 * pieces ≤ rate → PrinterIs S t h pieces rate calls_pieces put_string.name f
