-- What a whole text means, by recursion on its trees and on the fuel.
use Rattle.std.specs.Prelude.{ℕ, zero, suc, false, ◌+◌, List, [], ◌∷◌, ◌++◌, length, Option, Some, None, codes}
use Rattle.std.specs.Option.{option_map_or}
use Rattle.c_syntax.specs.Plain.{CUnit}
use Rattle.c_syntax.specs.Words.{meaning}
use Rattle.c_types.specs.Types.{CType}
use Rattle.c_types.specs.Room.{charges_of}
use Rattle.c_eval.specs.State as state
use Rattle.c_eval.specs.State.{Value, Missing, Cell, Holds, Act, OutsideObject, State, Outcome, Run}
use Rattle.c_eval.specs.Run.{◌>>=◌, give, undefined, exit, paid, stop, charged}
use Rattle.c_eval.specs.Memory.{within}
use Rattle.c_eval.specs.Operators.{converted}
use Rattle.c_eval.specs.Environment.{Environment}
use Rattle.c_eval.specs.Eval.{World, Flow, Returned, does}
use Rattle.c_eval.specs.Text.{Definition, Text, text_of, function_named}

-- a parameter has its argument's value; spare arguments have no name, and missing ones no object
abbrev pub argument_objects : List (List ℕ) → List Value → List (List Cell)
argument_objects [] vs = []
argument_objects (name ∷ names) [] = []
argument_objects (name ∷ names) (v ∷ vs) = (Holds v ∷ []) ∷ argument_objects names vs

-- each parameter's name has its object
abbrev pub argument_names : List (List ℕ) → List Value → ℕ → List (List ℕ × Option ℕ)
argument_names [] vs n = []
argument_names (name ∷ names) [] n = (name, None) ∷ argument_names names [] n
argument_names (name ∷ names) (v ∷ vs) n = (name, Some n) ∷ argument_names names vs (suc n)

-- what a function's body gave converts to its result's type
unfoldable pub result_of : CType → Flow → Run Value
result_of t (Returned v) = give (converted t v)
result_of t flow = give Missing

-- the place of a function's body, its first argument's object having this number
abbrev pub body_environment : Definition → List (List ℕ × Option ℕ) → List Value → ℕ → Environment
body_environment f names vs n = record { scope = f.scope; objects = argument_names f.params vs n ++ names; next = n + length (argument_objects f.params vs); literals_before = 0 }

-- a function runs with arguments, where the names of file scope have these objects
unfoldable pub runs : Definition → List (List ℕ × Option ℕ) → ℕ → World → List Value → Run Value
runs f names deep w vs = within (argument_objects f.params vs) (λ n. does f.body deep w (body_environment f names vs n)) >>= result_of f.result

-- by which a text is evaluated: the charge of each function, and what a call of a helper function does
pub record Rules : Type 0 where
  pub charge : List ℕ → ℕ
  pub helps : List ℕ → Option (List Value → Run Value)

-- a function of the text is evaluated with its own name and with what calls do
abbrev pub world_of : Text → List ℕ → List ℕ → (List ℕ → List Value → Run Value) → World
world_of t input name calls = record { input = input; owner = Some name; calls = calls; inner = false }

-- a call, its charge being tested
unfoldable pub charged_run : Rules → Text → List ℕ → (List ℕ → List Value → Run Value) → ℕ → List ℕ → Option Definition → List Value → Run Value
charged_run rules t input calls deep name None vs = undefined OutsideObject
charged_run rules t input calls deep name (Some f) vs = charged (rules.charge name) (runs f t.names deep (world_of t input name calls) vs)

-- a call of a helper function does what the rules say, and each other call costs a unit
unfoldable pub call_by : Option (List Value → Run Value) → List Value → Run Value → Run Value
call_by None vs m = paid false m
call_by (Some help) vs m = help vs

-- what a call of a function of the text does, to so many calls deep
unfoldable pub calls_to : ℕ → Rules → Text → List ℕ → List ℕ → List Value → Run Value
calls_to zero rules t input name vs = stop
calls_to (suc n) rules t input name vs = call_by (rules.helps name) vs (charged_run rules t input (calls_to n rules t input) n name (function_named t name) vs)

-- before the opening call
abbrev pub opening : Text → ℕ → State
opening t fuel = record { objects = t.objects; left = fuel; spare = 0; words = 0; charge = 0; taken = 0; output = [] }

-- the opening call of `main` costs no unit; when it has returned the run has ended
unfoldable pub run_of : Rules → Text → List ℕ → ℕ → Run Value
run_of rules t input fuel = charged_run rules t input (calls_to (suc fuel) rules t input) (suc fuel) (codes "main") (function_named t (codes "main")) [] >>= λ _. exit

-- a whole run with so much fuel
unfoldable pub eval : Rules → Text → List ℕ → ℕ → Outcome Value
eval rules t input fuel = run_of rules t input fuel (opening t fuel)

-- ---- what is seen of a run

-- how a run ends
pub data End : Type 0 where
  Ended : End
  Going : End
  Undefined : (act : Act) → End

-- the end, what was written, and how many bytes of the input were taken
pub record Meaning : Type 0 where
  pub end : End
  pub output : List ℕ
  pub taken : ℕ

-- what a state shows
abbrev pub seen : End → State → Meaning
seen end st = record { end = end; output = st.output; taken = st.taken }

-- what an outcome shows
abbrev pub meaning_in : {A : Type 0} → Outcome A → Meaning
meaning_in (state.Gives a st) = seen Ended st
meaning_in (state.Ended st) = seen Ended st
meaning_in (state.Going st) = seen Going st
meaning_in (state.Undefined act st) = seen (Undefined act) st

-- the rules of a text that a programmer wrote: it has no helper functions
abbrev pub own_rules : CUnit → Rules
own_rules u = record { charge = λ name. option_map_or (λ n. n) (meaning (charges_of u) name) 0; helps = λ name. None }

-- the meaning of a text on an input with so much fuel
unfoldable pub meaning_of : CUnit → List ℕ → ℕ → Meaning
meaning_of u input fuel = meaning_in (eval (own_rules u) (text_of u) input fuel)
