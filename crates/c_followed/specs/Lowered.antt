-- Texts, as desugaring leaves them, and the programs to which they are lowered.
use Rattle.std.specs.Prelude.{◌≡◌, ◌⊎◌, ℕ, ◌+◌, ◌*◌, ◌^◌, ◌<◌, ◌≤◌, Bool, true, false, List, Some, None, min, codes}
use Rattle.c_syntax.specs.Plain.{CUnit}
use Rattle.c_types.specs.Types.{CTypes}
use Rattle.c_eval.specs.State.{Value, Run}
use Rattle.c_eval.specs.Run.{most_charge}
use Rattle.c_eval.specs.Environment.{Callee, Direct, Known, Format, Through}
use Rattle.c_eval.specs.Text.{Definition, text_of, function_named}
use Rattle.c_eval.specs.Meaning.{Rules, world_of, eval, meaning_in}
use Rattle.c_eval.specs.Helpers.{Helpers, helper_world, helps_to, helper_rules}
use Rattle.c_helpers.specs.Meanings.{known_to_helpers}
use Rattle.c_place.specs.Code.{jumps}
use Rattle.c_lowered.specs.Counts.{is_known_to_helpers}
use Rattle.c_lowered.specs.Locations.{Linking}
use Rattle.c_lowered.specs.Whole.{frames, linking_of, whole_code, lowered}
use Rattle.c_memory.specs.Follows.{worth, outer}
use Rattle.c_memory.specs.Lies.{Ground}
use Rattle.c_landing.specs.Landing.{Names, Setting}
use Rattle.c_followed.specs.Bodies.{FunctionIs}
use Rattle.c_followed.specs.Framed.{CallLands, calling, MayCall, MayBeCalled, IsOwn}
use Rattle.c_followed.specs.Used.{IsCalled, UndefinedIsSilent}
use Rattle.c_followed.specs.Printed.{PrinterIs, FailsAlike}
use Rattle.c_followed.specs.Spelled.{SpellerIs}
use Rattle.c_laid.specs.Data.{ground_of, DataIs}
use Rattle.c_followed.specs.Faithful.{IsFaithful}

-- where the code of a text is run, on a ground: a unit pays for so many operations, and frames begin behind the objects of file scope
abbrev pub setting_on : (ground : Ground) → CUnit → (input : List ℕ) → (rate : ℕ) → Setting
setting_on ground u input rate = record {
  program = lowered u;
  input = input;
  mode = outer rate;
  ground = ground;
  linking = linking_of u;
  coded = (text_of u).names;
  named = (text_of u).names;
  file_bases = (linking_of u).bases;
  file_coded = (text_of u).names;
  file_named = (text_of u).names;
  roof = 0;
  level = λ charge words. frames u + min charge most_charge;
  deep = 0;
}

-- on its own
abbrev pub setting_of : CUnit → (input : List ℕ) → (rate : ℕ) → Setting
setting_of u input rate = setting_on (ground_of u) u input rate

-- the rules of a text with helper functions
abbrev pub rules_of : CUnit → Helpers → (input : List ℕ) → Rules
rules_of u h input = helper_rules h (text_of u) input

-- a helper function that calls such alone, and nothing that only they know
abbrev pub IsPlain : (Callee → Bool) → List ℕ → Type 0
IsPlain may_help name = (params : CTypes) × (may_help (Direct name params) ≡ true)

-- its operator neither takes nor writes a byte where it is undefined; or it prints, and is undefined as its operator is; or its uses land
abbrev pub UseLands : CUnit → Helpers → (input : List ℕ) → (rate uses pieces : ℕ) → (may_help may_print : Callee → Bool) → List ℕ → (List Value → Run Value) → Type 0
UseLands u h input rate uses pieces may_help may_print name operator =
    (IsPlain may_help name × UndefinedIsSilent operator)
    ⊎ (((f : Definition) × PrinterIs (setting_of u input rate) (text_of u) h pieces rate may_print name f × FailsAlike h (text_of u) input name operator)
    ⊎ ((deep roof : ℕ) (linking : Linking) (coded named : Names) → CallLands (calling (setting_of u input rate) deep roof linking coded named) name uses (helps_to h (text_of u) input name operator)))

-- what a function that prints calls is such a helper function, or it writes strings, or the text has no function of that name
abbrev pub PieceLands : CUnit → Helpers → (input : List ℕ) → (rate spare_rate : ℕ) → (may_help : Callee → Bool) → List ℕ → Type 0
PieceLands u h input rate spare_rate may_help name = IsPlain may_help name ⊎ (((f : Definition) × SpellerIs (setting_of u input rate) (text_of u) h rate spare_rate may_help name f) ⊎ (function_named (text_of u) name ≡ None))

-- how many operations are run at most: for a unit, for one of the second fuel, in a use, and for what helper functions alone know
pub record Rates : Type 0 where
  pub rate : ℕ
  pub spare_rate : ℕ
  pub uses : ℕ
  pub pieces : ℕ

-- what is called: by functions of the text, by helper functions, and by those of them that print
pub record Called : Type 0 where
  pub may : Callee → Bool
  pub may_help : Callee → Bool
  pub may_print : Callee → Bool

-- a text as desugaring leaves it, on an input
pub record TextIs (u : CUnit) (h : Helpers) (input : List ℕ) (n : Rates) (c : Called) : Type 0 where
  -- it is small: its blocks and its frames are numbered by words
  pub few : jumps (whole_code u) < 2 ^ 24
  pub room : frames u + most_charge + 1024 < 2 ^ 24
  pub memory : DataIs u
  -- what units pay for
  pub some : 1 ≤ n.rate
  pub enough : 3 ≤ n.spare_rate
  pub paid : n.spare_rate + worth n.spare_rate h.ration ≤ n.uses
  pub refilled : worth n.spare_rate h.ration ≤ n.pieces
  -- functions of the text; `main` is no helper function
  pub main : h.operator (codes "main") ≡ None
  pub can : MayCall (setting_of u input n.rate) c.may
  pub functions : (name : List ℕ) (f : Definition) (calls : List ℕ → List Value → Run Value) → IsOwn (setting_of u input n.rate) (text_of u) (rules_of u h input) c.may name f → FunctionIs (setting_of u input n.rate) (world_of (text_of u) input name calls) n.uses c.may (h.charge name) n.rate f
  -- helper functions
  pub helpers_can : MayCall (setting_of u input n.rate) c.may_help
  pub through : (params : CTypes) → c.may_help (Through params) ≡ false
  pub unknown : (name : List ℕ) (params : CTypes) → c.may_help (Direct name params) ≡ true → h.known name ≡ None
  pub helpers : (name : List ℕ) (f : Definition) (calls : List ℕ → List Value → Run Value) → IsCalled (text_of u) c.may_help name f → FunctionIs (setting_of u input n.rate) (helper_world (text_of u) input name calls) 0 c.may_help (h.charge name) n.spare_rate f
  pub land : (name : List ℕ) (operator : List Value → Run Value) → MayBeCalled (setting_of u input n.rate) c.may name → h.operator name ≡ Some operator → UseLands u h input n.rate n.uses n.pieces c.may_help c.may_print name operator
  -- those that print call these by their names, and what helper functions alone know
  pub known : (name : List ℕ) → h.known name ≡ known_to_helpers h.ration name
  pub prints_through : (params : CTypes) → c.may_print (Through params) ≡ false
  pub prints_built_in : (name : List ℕ) (params : CTypes) → c.may_print (Known name params) ≡ false
  pub prints_format : c.may_print Format ≡ false
  pub prints : (name : List ℕ) (params : CTypes) → c.may_print (Direct name params) ≡ true → is_known_to_helpers name ≡ false → PieceLands u h input n.rate n.spare_rate c.may_help name

-- the program shows the text's output and taken bytes no earlier than units are spent, and within so many steps for each unit; it ends where the text does
abbrev pub TextsAreLowered : Type 0
TextsAreLowered = (u : CUnit) (h : Helpers) (input : List ℕ) (n : Rates) (c : Called) → TextIs u h input n c → (fuel : ℕ) → IsFaithful (lowered u) input fuel ((n.rate + 5) * (fuel + 1)) (meaning_in (eval (rules_of u h input) (text_of u) input fuel))
