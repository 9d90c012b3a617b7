-- Helper functions that write strings, where these are undefined.
use Rattle.std.specs.Prelude.{ℕ, ◌+◌, ◌^◌, ◌<◌, ◌≤◌, false, List, [], ◌∷◌}
use Rattle.c_eval.specs.State.{Value, State}
use Rattle.c_eval.specs.BuiltIns.{put_string_at}
use Rattle.c_eval.specs.Text.{Text, function_named}
use Rattle.c_eval.specs.Helpers.{Helpers, helper_runs, helper_calls}
use Rattle.c_helpers.specs.Functions.{print_string, put_string}
use Rattle.c_helpers.specs.Meanings.{of_one, string_put}
use Rattle.c_formats.specs.StringsLaws.{Known, HasString, HasPuts}
use Rattle.c_failing.specs.Failing.{FailsAs, IsArgument, FailsAlike}

-- where a string is undefined, a call by another helper function of the function that writes it is undefined too, behind the same characters
abbrev pub StringsFail : Type 0
StringsFail = (h : Helpers) (t : Text) → 1 ≤ h.ration → Known h → HasString h t → (input : List ℕ) (deep : ℕ) (p : Value) (st : State) → st.left < deep → 1 ≤ st.spare → st.words + 16 ≤ 1024 → IsArgument st.objects p
    → FailsAs (put_string_at false p st) (helper_runs h t input (helper_calls deep h t input) deep print_string.name (function_named t print_string.name) (p ∷ []) st)

-- a use of the function of `puts` fails as `puts` does
abbrev pub PutsFails : Type 0
PutsFails = (h : Helpers) (t : Text) → 2 ^ 9 ≤ h.ration → Known h → HasString h t → HasPuts h t → (input : List ℕ) → FailsAlike h t input put_string.name (of_one string_put)
