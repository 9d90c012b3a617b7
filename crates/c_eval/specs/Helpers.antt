-- Helper functions, which stand for operators in a text whose operators became calls: by the same definition, with a fuel, words and objects of their own.
use Rattle.std.specs.Prelude.{ℕ, zero, suc, ◌+◌, ◌*◌, Bool, true, false, nat_le, List, [], length, take, Option, Some, None}
use Rattle.std.specs.Option.{option_map}
use Rattle.c_eval.specs.State.{Value, OutsideObject, HelperLimit, State, Outcome, Gives, Ended, Going, Undefined, Run}
use Rattle.c_eval.specs.Run.{undefined, paid, stop}
use Rattle.c_eval.specs.Eval.{World}
use Rattle.c_eval.specs.Text.{Definition, Text, function_named}
use Rattle.c_eval.specs.Meaning.{runs, Rules}

-- what a text with helper functions is evaluated by
pub record Helpers : Type 0 where
  -- the charge of each function: of a helper function its own, and of each other one that in the text in which the operators were
  pub charge : List ℕ → ℕ
  -- the operator that a helper function stands for, which functions call
  pub operator : List ℕ → Option (List Value → Run Value)
  -- what helper functions alone call
  pub known : List ℕ → Option (List Value → Run Value)
  -- the second fuel at the start of a use
  pub ration : ℕ

-- however a part ends, its state becomes another
unfoldable pub leaving : {A : Type 0} → (State → State) → Outcome A → Outcome A
leaving f (Gives a st) = Gives a (f st)
leaving f (Ended st) = Ended (f st)
leaving f (Going st) = Going (f st)
leaving f (Undefined act st) = Undefined act (f st)

-- the second fuel begins anew
unfoldable pub refill : ℕ → Run (Unit {0})
refill ration st = Gives tt (record st { spare = ration })

-- a use of a helper function has a fuel and words of its own; at its end both are as before
abbrev pub behind_use : State → State → State
behind_use before st = record st { spare = before.spare; words = before.words }

-- a use begins with so much second fuel and no words
unfoldable pub helped : {A : Type 0} → ℕ → Run A → Run A
helped ration m st = leaving (behind_use st) (m (record st { spare = ration; words = 0 }))

-- at the end of a helper function its objects go away
abbrev pub behind_helper : State → State → State
behind_helper before st = record st { objects = take (length before.objects) st.objects; words = before.words }

-- where the charge is within the limit
unfoldable pub own_charged_by : {A : Type 0} → Bool → ℕ → Run A → Run A
own_charged_by false n m st = Undefined HelperLimit st
own_charged_by true n m st = leaving (behind_helper st) (m (record st { words = st.words + n }))

-- a call of a helper function: the charges of a use's live calls are together at most 1024
unfoldable pub own_charged : {A : Type 0} → ℕ → Run A → Run A
own_charged n m st = own_charged_by (nat_le (st.words + n) 1024) n m st

-- calls in a helper function are those of helper functions
abbrev pub helper_world : Text → List ℕ → List ℕ → (List ℕ → List Value → Run Value) → World
helper_world t input name calls = record { input = input; owner = Some name; calls = calls; inner = true }

-- a helper function sees its parameters, and no object of file scope
unfoldable pub helper_runs : Helpers → Text → List ℕ → (List ℕ → List Value → Run Value) → ℕ → List ℕ → Option Definition → List Value → Run Value
helper_runs h t input calls deep name None vs = undefined OutsideObject
helper_runs h t input calls deep name (Some f) vs = own_charged (h.charge name) (runs f [] deep (helper_world t input name calls) vs)

-- a function that only helper functions know, else another call
unfoldable pub known_or : Option (List Value → Run Value) → List Value → Run Value → Run Value
known_or None vs m = m
known_or (Some f) vs m = f vs

-- a call by a helper function costs a unit of the second fuel
unfoldable pub helper_calls : ℕ → Helpers → Text → List ℕ → List ℕ → List Value → Run Value
helper_calls zero h t input name vs = stop
helper_calls (suc n) h t input name vs =
    known_or (h.known name) vs (paid true (helper_runs h t input (helper_calls n h t input) n name (function_named t name) vs))

-- where the operator is undefined, so is the call
unfoldable pub guarded : {A : Type 0} → Outcome A → Outcome A → Outcome A
guarded (Gives a st) r = r
guarded (Ended st) r = r
guarded (Going st) r = r
guarded (Undefined act st) r = Undefined act st

-- more than a use can go through
abbrev pub use_depth : ℕ → ℕ → ℕ
use_depth ration left = suc (left * (ration + 1) + ration)

-- a call of a helper function by a function costs no unit and has no charge
unfoldable pub helps_to : Helpers → Text → List ℕ → List ℕ → (List Value → Run Value) → List Value → Run Value
helps_to h t input name operator vs st =
    guarded (operator vs st)
    (helped h.ration (helper_runs h t input (helper_calls (use_depth h.ration st.left) h t input) (use_depth h.ration st.left) name (function_named t name) vs) st)

-- the rules of a text with helper functions
abbrev pub helper_rules : Helpers → Text → List ℕ → Rules
helper_rules h t input = record { charge = h.charge; helps = λ name. option_map (λ operator. helps_to h t input name operator) (h.operator name) }
