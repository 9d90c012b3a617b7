-- What is called where operators became calls.
use Rattle.std.specs.Prelude.{◌≡◌, ℕ, Bool, true, false, not, ◌&&◌, ◌||◌, List, Option, Some, is_some, Ok, codes}
use Rattle.std.specs.List.{list_any}
use Rattle.std.specs.Str.{bytes_eq}
use Rattle.c_syntax.specs.Plain.{CExpr}
use Rattle.c_types.specs.Types.{CTypes}
use Rattle.c_types.specs.Operands.{Operand}
use Rattle.c_types.specs.Scope.{Scope, Entity, BuiltIn, Printf, entity_of}
use Rattle.c_types.specs.Expressions.{judged}
use Rattle.c_eval.specs.Environment.{Callee, Through, named_callee}
use Rattle.c_alike.specs.Alike.{EachName}
use Rattle.c_fewer_types.specs.Written.{ScopeCanBeWritten, StringsAreShort}
use Rattle.c_helpers.specs.Fewer.{fewer}
use Rattle.c_helpers.specs.Laws.{is_strange}
use Rattle.c_helpers.specs.Meanings.{stands_for}
use Rattle.c_fewer_types.specs.Stands.{ExprStands}
use Rattle.c_fewer_types.specs.Laws.{KnowsBuiltIns}
use Rattle.c_lowered.specs.Counts.{is_known_to_helpers}
use Rattle.c_valued.specs.Calls.{CallsAre}
use Rattle.c_fewer_reached.specs.Updates.{UpdatesAre}
use Rattle.c_compiled.specs.Few.{TagsHaveObjects, NameServes}

-- helper functions stand for `puts` and `printf`
abbrev pub has_helper : List ℕ → Option Entity → Bool
has_helper name (Some (BuiltIn t)) = bytes_eq name (codes "puts")
has_helper name (Some Printf) = true
has_helper name _ = false

-- a text calls its own names, and helper functions that stand for something
abbrev pub is_called : List ℕ → Option Entity → Bool
is_called name o = (not (list_any is_strange name) || is_some (stands_for name)) && not (has_helper name o)

-- what a name stands for may be called, if a text calls it; it is none that helper functions alone know, and the text's names have letters, digits and `_`
pub record NameCalls (may : Callee → Bool) (s s' : Scope) (name : List ℕ) : Type 0 where
  pub calls : is_called name (entity_of s' name) ≡ true → may (named_callee name (entity_of s' name)) ≡ true
  pub own : is_known_to_helpers name ≡ false
  pub text : (x : Entity) → entity_of s name ≡ Some x → list_any is_strange name ≡ false

-- the calls of a typed expression are of what may be called where operators became calls, in a scope in which its names have their meaning
abbrev pub CallsMayBeCalled : Type 0
CallsMayBeCalled =
    (valued : List ℕ → Bool) (may : Callee → Bool) (s s' : Scope) (e : CExpr) (x : Operand) → ((params : CTypes) → may (Through params) ≡ true) → s.tags ≡ s'.tags → ScopeCanBeWritten s → KnowsBuiltIns s → TagsHaveObjects s.tags → StringsAreShort e → UpdatesAre e → ExprStands s s' e
    → EachName (NameServes valued s) (fewer s e) → EachName (NameCalls may s s') (fewer s e) → judged s e ≡ Ok x → CallsAre may valued (fewer s e) s'
