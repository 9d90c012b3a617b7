-- File scopes of a text and of the one with fewer operators, before the same external.
use Rattle.std.specs.Prelude.{◌≡◌, ℕ, Bool, true, List, [], Option, Some, None}
use Rattle.std.specs.List.{list_any}
use Rattle.c_syntax.specs.Words.{meaning}
use Rattle.c_types.specs.Types.{CType}
use Rattle.c_types.specs.Scope.{Scope, Entity, Object, Routine, BuiltIn, Printf, contains}
use Rattle.c_fewer_types.specs.Written.{ScopeCanBeWritten}
use Rattle.c_helpers.specs.Laws.{is_strange}
use Rattle.c_fewer_types.specs.Stands.{helper_type}
use Rattle.c_fewer_types.specs.Laws.{KnowsBuiltIns}
use Rattle.c_fewer_types.specs.Standing.{IsTextName}

-- a name stands for the same in both; the definition of a function has begun in the second at most where it has in the first
abbrev pub EntitiesStand : Option Entity → Option Entity → Type 0
EntitiesStand None o = o ≡ None
EntitiesStand (Some (Object t)) o = o ≡ Some (Object t)
EntitiesStand (Some (Routine t begun)) o = (begins : Bool) × (o ≡ Some (Routine t begins)) × (begins ≡ true → begun ≡ true)
EntitiesStand (Some (BuiltIn t)) o = o ≡ Some (BuiltIn t)
EntitiesStand (Some Printf) o = o ≡ Some Printf

-- a name is that of a helper function, which the scope knows and its text defines
pub record IsHelper (s' : Scope) (name : List ℕ) : Type 0 where
  pub ty : CType
  pub type_is : helper_type name ≡ Some ty
  pub begun : Bool
  pub found : meaning s'.block name ≡ Some (Routine ty begun)
  pub defined : contains s'.defined name ≡ true

-- the second file scope stands for the first, for the names that pass a test
pub record FilesStand (test : List ℕ → Bool) (s s' : Scope) : Type 0 where
  pub tags : s.tags ≡ s'.tags
  pub outer : s.outer ≡ []
  pub outer_too : s'.outer ≡ []
  pub names : (name : List ℕ) → IsTextName name → EntitiesStand (meaning s.block name) (meaning s'.block name)
  -- the text has no names with other characters; those that pass the test are helper functions'
  pub none : (name : List ℕ) → list_any is_strange name ≡ true → meaning s.block name ≡ None
  pub helpers : (name : List ℕ) → list_any is_strange name ≡ true → test name ≡ true → IsHelper s' name
  pub defined : (name : List ℕ) → test name ≡ true → contains s.defined name ≡ true → contains s'.defined name ≡ true
  pub written : ScopeCanBeWritten s
  pub built_in : KnowsBuiltIns s
