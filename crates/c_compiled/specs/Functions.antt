-- The functions of a typed text, and the scopes in which their bodies stand.
use Rattle.std.specs.Prelude.{◌≡◌, ℕ, Bool, true, false, not, ◌||◌, List, Some, is_some, Ok, codes}
use Rattle.std.specs.List.{list_any}
use Rattle.std.specs.Str.{bytes_eq}
use Rattle.c_syntax.specs.Plain.{CUnit}
use Rattle.c_types.specs.Limits.{IsTyped}
use Rattle.c_types.specs.Types.{CTypes}
use Rattle.c_types.specs.Scope.{Scope, contains}
use Rattle.c_types.specs.Units.{body_judged, defined_in}
use Rattle.c_eval.specs.Environment.{Callee, Direct, Known, Through}
use Rattle.c_eval.specs.Text.{Definition, text_of, function_named}
use Rattle.c_helpers.specs.Laws.{is_strange}
use Rattle.c_helpers.specs.Meanings.{stands_for}
use Rattle.c_fewer_types.specs.Standing.{IsTextName}
use Rattle.c_fewer_names.specs.FewerKnownLaws.{NamesAreOfText}
use Rattle.c_programs.specs.Programs.{ItemsHaveNames}
use Rattle.c_lowered.specs.Counts.{is_known_to_helpers}
use Rattle.c_compiled.specs.Few.{TagsHaveObjects}
use Rattle.c_compiled.specs.Statements.{ScopesServe}

-- what is declared has a name of letters, digits and `_`, and these functions are defined; what an object can have has a word
pub record IsTextScope (defined : List (List ℕ)) (s : Scope) : Type 0 where
  pub tags : TagsHaveObjects s.tags
  pub names : NamesAreOfText s
  pub functions : s.defined ≡ defined

-- a function of a text: its body is typed in such a scope, and no `break` or `continue` leads out of it
pub record IsTextFunction (defined : List (List ℕ)) (f : Definition) : Type 0 where
  pub scope : IsTextScope defined f.scope
  pub behind : Scope
  pub typed : body_judged f.scope (record { result = f.result; continues = false; breaks = false }) (Some f.body) ≡ Ok behind

-- so is each function of a typed text whose names are such
abbrev pub FunctionsOfTextsAreTextFunctions : Type 0
FunctionsOfTextsAreTextFunctions = (u : CUnit) → IsTyped u → ItemsHaveNames u.items → (name : List ℕ) (f : Definition) → function_named (text_of u) name ≡ Some f → IsTextFunction (defined_in u.items) f

-- of the names that pass a test: what the text defines is what pointers may point to; what a text calls may be called, by the name or through a value; none is known to helper functions alone
pub record NamesServe (valued : List ℕ → Bool) (may : Callee → Bool) (test : List ℕ → Bool) (defined : List (List ℕ)) : Type 0 where
  pub points : (name : List ℕ) → test name ≡ true → IsTextName name → contains defined name ≡ true → valued name ≡ true
  pub direct : (name : List ℕ) (params : CTypes) → test name ≡ true → (not (list_any is_strange name) || is_some (stands_for name)) ≡ true → may (Direct name params) ≡ true
  pub built_in : (name : List ℕ) (params : CTypes) → bytes_eq name (codes "puts") ≡ false → may (Known name params) ≡ true
  pub through : (params : CTypes) → may (Through params) ≡ true
  pub own : (name : List ℕ) → test name ≡ true → is_known_to_helpers name ≡ false

-- then they serve in the scope of a text, and in any scope of the text in which operators became calls
abbrev pub TextScopesServe : Type 0
TextScopesServe =
    (valued : List ℕ → Bool) (may : Callee → Bool) (test : List ℕ → Bool) (defined : List (List ℕ)) (s s' : Scope) → NamesServe valued may test defined → IsTextScope defined s → ScopesServe valued may (λ name. test name ≡ true) s s'
