-- Uses of helper functions.
use Rattle.std.specs.Prelude.{◌≡◌, ℕ, ◌+◌, ◌≤◌, Bool, true, false, List, [], Some, None}
use Rattle.c_types.specs.Types.{CTypes}
use Rattle.c_eval.specs.State.{Value, State, Act, Undefined, Run}
use Rattle.c_eval.specs.Environment.{Callee, Direct, Through}
use Rattle.c_eval.specs.Text.{Definition, Text, function_named}
use Rattle.c_eval.specs.Helpers.{Helpers, helper_world, helps_to}
use Rattle.c_lowered.specs.Locations.{Linking}
use Rattle.c_memory.specs.Follows.{worth, Mode, in_use}
use Rattle.c_memory.specs.Lies.{Ground, Whole, Before}
use Rattle.c_landing.specs.Landing.{Names, Setting}
use Rattle.c_landing.specs.Few.{Agrees}
use Rattle.c_followed.specs.Bodies.{inside, FunctionIs}
use Rattle.c_followed.specs.Framed.{outside, CallLands, calling, MayCall, FramesFit, StandsThere}

-- a setting on another ground
abbrev pub on_ground : (ground : Ground) → Setting → Setting
on_ground ground S = record S { ground = ground }

-- in a use: pointers reach the objects that were there before it, frames go as far behind the first of the use as the charges of its calls, and no name of file scope has an object
abbrev pub in_helper_by : Mode → Setting → (first bottom : ℕ) → Setting
in_helper_by mode S first bottom = record S {
  mode = mode;
  ground = record S.ground { reach = Before first };
  file_named = [];
  level = λ charge words. bottom + words;
}

abbrev pub in_helper : Setting → (rate spare_rate ration first bottom : ℕ) → Setting
in_helper S rate spare_rate ration first bottom = in_helper_by (in_use rate spare_rate ration) S first bottom

-- a function of a text that may be called by its name
abbrev pub IsCalled : Text → (Callee → Bool) → List ℕ → Definition → Type 0
IsCalled t may name f = ((params : CTypes) × (may (Direct name params) ≡ true)) × (function_named t name ≡ Some f)

-- helper functions call such alone, none of which only they know, and nothing through pointers; each stands where its entry says, its frame is at most its charge, and a unit of the second fuel pays for its operations
pub record HelpersStand (S : Setting) (t : Text) (h : Helpers) (spare_rate : ℕ) (may : Callee → Bool) : Type 0 where
  pub unknown : (name : List ℕ) (params : CTypes) → may (Direct name params) ≡ true → h.known name ≡ None
  pub through : (params : CTypes) → may (Through params) ≡ false
  pub agrees : (name : List ℕ) (f : Definition) (calls : List ℕ → List Value → Run Value) → IsCalled t may name f → Agrees (inside S f) (helper_world t S.input name calls)
  pub there : (name : List ℕ) (f : Definition) → IsCalled t may name f → StandsThere S name f
  pub is : (name : List ℕ) (f : Definition) (calls : List ℕ → List Value → Run Value) → IsCalled t may name f → FunctionIs S (helper_world t S.input name calls) 0 may (h.charge name) spare_rate f

-- an operator that is undefined neither takes nor writes a byte
abbrev pub UndefinedIsSilent : (List Value → Run Value) → Type 0
UndefinedIsSilent operator = (vs : List Value) (st st1 : State) (act : Act) → operator vs st ≡ Undefined act st1 → (st1.taken ≡ st.taken) × (st1.output ≡ st.output)

-- a use takes its helper function's operations, and what its second fuel pays for
abbrev pub PlainUsesLand : Type 0
PlainUsesLand =
    (S : Setting) (t : Text) (h : Helpers) (first rate spare_rate u : ℕ) (may : Callee → Bool) → S.ground.reach ≡ Whole → FramesFit S first → MayCall S may → HelpersStand S t h spare_rate may → spare_rate + worth spare_rate h.ration ≤ u
    → (deep roof : ℕ) (linking : Linking) (coded named : Names) (name : List ℕ) (params : CTypes) (operator : List Value → Run Value) → may (Direct name params) ≡ true → UndefinedIsSilent operator
    → CallLands (calling (outside S rate) deep roof linking coded named) name u (helps_to h t S.input name operator)
