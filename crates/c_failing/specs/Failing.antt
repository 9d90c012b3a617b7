-- Parts of runs that are undefined behind what they have shown.
use Rattle.std.specs.Prelude.{◌≡◌, ◌⊎◌, ℕ, ◌^◌, ◌<◌, List, [], ◌∷◌, length}
use Rattle.c_eval.specs.State.{Value, Word, Point, Object, State, Outcome, Gives, Ended, Going, Undefined, Run}
use Rattle.c_eval.specs.Text.{Text, function_named}
use Rattle.c_eval.specs.Helpers.{Helpers, helper_runs, helper_calls, use_depth}

-- a part is undefined, where so many bytes of the input are taken and these are written
abbrev pub Fails : {A : Type 0} → (taken : ℕ) → (output : List ℕ) → Outcome A → Type 0
Fails taken output (Gives a st) = ⊥
Fails taken output (Ended st) = ⊥
Fails taken output (Going st) = ⊥
Fails taken output (Undefined act st) = (st.taken ≡ taken) × (st.output ≡ output)

-- where the first part is undefined, so is the second, and both have shown the same
abbrev pub FailsAs : {A B : Type 0} → Outcome A → Outcome B → Type 0
FailsAs (Gives a st) r = Unit {0}
FailsAs (Ended st) r = Unit {0}
FailsAs (Going st) r = Unit {0}
FailsAs (Undefined act st) r = Fails st.taken st.output r

-- where the first part is undefined, it has shown nothing since this moment, or the second is undefined too, and both have shown the same
abbrev pub FailsSince : {A B : Type 0} → State → Outcome A → Outcome B → Type 0
FailsSince before (Gives a st) r = Unit {0}
FailsSince before (Ended st) r = Unit {0}
FailsSince before (Going st) r = Unit {0}
FailsSince before (Undefined act st) r = ((st.taken ≡ before.taken) × (st.output ≡ before.output)) ⊎ Fails st.taken st.output r

-- a value as a call's argument, among these objects: a word is below 2^24, and a pointer points to an object that was made
abbrev pub IsArgument : List Object → Value → Type 0
IsArgument os (Word n) = n < 2 ^ 24
IsArgument os (Point o k) = o < length os
IsArgument os v = Unit {0}

abbrev pub AreArguments : List Object → List Value → Type 0
AreArguments os [] = Unit {0}
AreArguments os (v ∷ vs) = IsArgument os v × AreArguments os vs

-- a helper function as a use runs it, from a second fuel and words of its own
abbrev pub own_run : Helpers → Text → (input name : List ℕ) → List Value → Run Value
own_run h t input name vs st =
    helper_runs h t input (helper_calls (use_depth h.ration st.left) h t input) (use_depth h.ration st.left) name (function_named t name) vs (record st { spare = h.ration; words = 0 })

-- where the operator is undefined for arguments of a run, either it has shown nothing, or its function's run is undefined too, and both have shown the same
abbrev pub FailsAlike : Helpers → Text → (input name : List ℕ) → (List Value → Run Value) → Type 0
FailsAlike h t input name operator = (vs : List Value) (st : State) → AreArguments st.objects vs → FailsSince st (operator vs st) (own_run h t input name vs st)
