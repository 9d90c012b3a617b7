-- Helper functions that write strings, as a text has them, and what they write.
use Rattle.std.specs.Prelude.{◌≡◌, ℕ, ◌+◌, ◌^◌, ◌<◌, ◌≤◌, false, List, [], ◌∷◌}
use Rattle.c_types.specs.Types.{Void, Int, Char, Pointer}
use Rattle.c_types.specs.Scope.{Names}
use Rattle.c_eval.specs.State.{Value, Missing, State, Outcome, Gives, Ended, Going, Undefined}
use Rattle.c_eval.specs.BuiltIns.{put_string_at}
use Rattle.c_eval.specs.Text.{Text, function_named}
use Rattle.c_eval.specs.Helpers.{Helpers, helper_runs, helper_calls, helps_to}
use Rattle.c_helpers.specs.Functions.{a, p, unit_name, piece_name, print_string, put_string}
use Rattle.c_helpers.specs.Fewer.{told}
use Rattle.c_helpers.specs.Meanings.{of_one, string_put, known_to_helpers}
use Rattle.c_helpers.specs.Terms.{declaration}
use Rattle.c_syntax.specs.Plain as plain
use Rattle.c_products.specs.MovesFound.{Parameter, Has, KnowsOf}

abbrev pub string_parameter : List Parameter
string_parameter = (p, Pointer Char) ∷ []

-- what helper functions alone call is known to them, and its names are to these
abbrev pub KnowsUnit : Names → Type 0
KnowsUnit names = KnowsOf names Void [] (told unit_name [])

abbrev pub KnowsPiece : Names → Type 0
KnowsPiece names = KnowsOf names Void ((a, Int) ∷ []) (told piece_name (declaration plain.Int a ∷ []))

abbrev pub Known : Helpers → Type 0
Known h = (name : List ℕ) → h.known name ≡ known_to_helpers h.ration name

-- a text has the function that writes strings
abbrev pub HasString : Helpers → Text → Type 0
HasString h t = (own : Has h t Void string_parameter print_string) × KnowsUnit own.names × KnowsPiece own.names

-- the one ends as the other, but for the second fuel, where that isn't undefined
abbrev pub Spells : Outcome (Unit {0}) → Outcome Value → Type 0
Spells (Gives u st) r = (spare : ℕ) × (r ≡ Gives Missing (record st { spare = spare }))
Spells (Going st) r = (spare : ℕ) × (r ≡ Going (record st { spare = spare }))
Spells (Ended st) r = Unit {0}
Spells (Undefined act st) r = Unit {0}

-- a call of the function by another helper function writes a string up to its zero, each character for a unit of the run
abbrev pub StringsAreWritten : Type 0
StringsAreWritten = (h : Helpers) (t : Text) → 1 ≤ h.ration → Known h → HasString h t → (input : List ℕ) (deep : ℕ) (p : Value) (st : State) → st.left < deep → 1 ≤ st.spare → st.words + 16 ≤ 1024
    → Spells (put_string_at false p st) (helper_runs h t input (helper_calls deep h t input) deep print_string.name (function_named t print_string.name) (p ∷ []) st)

-- it has the function of `puts`, which knows that of strings
abbrev pub HasPuts : Helpers → Text → Type 0
HasPuts h t = (own : Has h t Int string_parameter put_string) × KnowsUnit own.names × KnowsPiece own.names × KnowsOf own.names Void string_parameter print_string

-- a call of it by a function of the text does what `puts` does
abbrev pub StringsArePut : Type 0
StringsArePut = (h : Helpers) (t : Text) → 2 ^ 9 ≤ h.ration → Known h → HasString h t → HasPuts h t → (input : List ℕ) (vs : List Value) (st : State) → helps_to h t input put_string.name (of_one string_put) vs st ≡ of_one string_put vs st
