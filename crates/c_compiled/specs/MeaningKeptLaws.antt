-- That operators become calls without a change of meaning, and what it rests on.
use Rattle.std.specs.Prelude.{◌≡◌, ℕ, ◌^◌, ◌≤◌, Bool, true, List, codes}
use Rattle.c_syntax.specs.Plain.{CUnit}
use Rattle.c_eval.specs.Text.{text_of, function_named}
use Rattle.c_eval.specs.Meaning.{eval, meaning_in, meaning_of}
use Rattle.c_eval.specs.Helpers.{helper_rules}
use Rattle.c_valid.specs.Valid.{AreBytes}
use Rattle.c_valid.specs.Laws.{FunctionsAreLimited}
use Rattle.c_helpers.specs.Simple.{desugared, helpers_of}
use Rattle.c_fewer_types.specs.Standing.{IsTextName}
use Rattle.c_worlds.specs.Named.{ObjectsAreNamed}
use Rattle.c_fewer_calls.specs.Standing.{MaybeStands, HelpDoes}
use Rattle.c_programs.specs.Programs.{IsProgram}

-- the program with fewer operators has the meaning of the program, on each input of bytes, at each amount of fuel, and with each ration of the second fuel from 512 on
abbrev pub DesugaringKeepsMeaning : Type 0
DesugaringKeepsMeaning =
    (u : CUnit) (input : List ℕ) (fuel ration : ℕ) → IsProgram u → AreBytes input → 2 ^ 9 ≤ ration
    → meaning_in (eval (helper_rules (helpers_of ration u) (text_of (desugared u)) input) (text_of (desugared u)) input fuel) ≡ meaning_of u input fuel

-- the text with fewer operators stands for the text in what is reached: its functions have their bodies with fewer operators, and its helper functions do what the operators do
pub record ProgramStands (u : CUnit) (input : List ℕ) (ration : ℕ) : Type 0 where
  pub test : List ℕ → Bool
  pub reached : List ℕ → Bool
  pub main : reached (codes "main") ≡ true
  pub names : (text_of (desugared u)).names ≡ (text_of u).names
  pub objects : (text_of (desugared u)).objects ≡ (text_of u).objects
  pub text : (name : List ℕ) → reached name ≡ true → IsTextName name
  pub functions : (name : List ℕ) → reached name ≡ true → MaybeStands test reached (function_named (text_of u) name) (function_named (text_of (desugared u)) name)
  pub limited : FunctionsAreLimited (text_of (desugared u)).functions
  pub does : (name : List ℕ) → test name ≡ true → HelpDoes (helper_rules (helpers_of ration u) (text_of (desugared u)) input) name
  pub named : ObjectsAreNamed (λ name. reached name ≡ true) (text_of u).objects

-- what the law of the whole rests on
abbrev pub DesugaredTextsStand : Type 0
DesugaredTextsStand = (u : CUnit) (input : List ℕ) (ration : ℕ) → IsProgram u → AreBytes input → 2 ^ 9 ≤ ration → ProgramStands u input ration

abbrev pub MeaningFollows : Type 0
MeaningFollows = DesugaredTextsStand → DesugaringKeepsMeaning
