-- Helper functions that write numbers, as a text has them, and what they write.
use Rattle.std.specs.Prelude.{◌≡◌, Some, ℕ, ◌+◌, ◌^◌, ◌<◌, ◌≤◌, false, List, [], ◌∷◌, ◌++◌, codes}
use Rattle.std.specs.Fmt.{digits, signed_decimal}
use Rattle.word24.specs.Word.{signed_of}
use Rattle.c_syntax.specs.Words.{meaning}
use Rattle.c_types.specs.Types.{Void, Int, Unsigned}
use Rattle.c_types.specs.Scope.{Names, built_in}
use Rattle.c_eval.specs.State.{Word, Missing, State, Gives}
use Rattle.c_eval.specs.Text.{Text, function_named}
use Rattle.c_eval.specs.Helpers.{Helpers, helper_runs, helper_calls}
use Rattle.c_helpers.specs.Functions.{a, b, digit, print_unsigned, print_hex, print_signed}
use Rattle.c_products.specs.MovesFound.{Parameter, Has, KnowsOf}
use Rattle.c_formats.specs.Places.{bytes}

abbrev pub digit_parameters : List Parameter
digit_parameters = (a, Unsigned) ∷ (b, Unsigned) ∷ []

abbrev pub unsigned_parameter : List Parameter
unsigned_parameter = (a, Unsigned) ∷ []

abbrev pub int_parameter : List Parameter
int_parameter = (a, Int) ∷ []

-- names among which `putchar` has its meaning
abbrev pub KnowsPut : Names → Type 0
KnowsPut names = meaning names (codes "putchar") ≡ Some (built_in Int (Int ∷ []))

-- a text has the function of one digit
abbrev pub HasDigit : Helpers → Text → Type 0
HasDigit h t = (own : Has h t Unsigned digit_parameters digit) × KnowsPut own.names

-- it has one that writes unsigned numbers in decimal
abbrev pub HasUnsigned : Helpers → Text → Type 0
HasUnsigned h t = (own : Has h t Void unsigned_parameter print_unsigned) × KnowsOf own.names Unsigned digit_parameters digit

-- in hex
abbrev pub HasHex : Helpers → Text → Type 0
HasHex h t = (own : Has h t Void unsigned_parameter print_hex) × KnowsOf own.names Unsigned digit_parameters digit

-- and ints in decimal
abbrev pub HasSigned : Helpers → Text → Type 0
HasSigned h t = (own : Has h t Void int_parameter print_signed) × KnowsPut own.names × KnowsOf own.names Void unsigned_parameter print_unsigned

-- ---- the laws

-- a call of the function by another helper function writes the text of a word, with 255 units of the second fuel at most, and changes nothing else
abbrev pub Writes : Helpers → Text → List ℕ → (ℕ → List ℕ) → Type 0
Writes h t name text = (input : List ℕ) (deep n : ℕ) (st : State) → n < 2 ^ 24 → 255 < deep → 255 ≤ st.spare → st.words + 64 ≤ 1024
    → (spare : ℕ) × (helper_runs h t input (helper_calls deep h t input) deep name (function_named t name) (Word n ∷ []) st ≡ Gives Missing (record st { spare = spare; output = st.output ++ bytes (text n) }))

abbrev pub UnsignedNumbersAreWritten : Type 0
UnsignedNumbersAreWritten = (h : Helpers) (t : Text) → HasDigit h t → HasUnsigned h t → Writes h t print_unsigned.name (digits 10 false)

abbrev pub HexNumbersAreWritten : Type 0
HexNumbersAreWritten = (h : Helpers) (t : Text) → HasDigit h t → HasHex h t → Writes h t print_hex.name (digits 16 false)

abbrev pub IntsAreWritten : Type 0
IntsAreWritten = (h : Helpers) (t : Text) → HasDigit h t → HasUnsigned h t → HasSigned h t → Writes h t print_signed.name (λ n. signed_decimal (signed_of n))
