-- Behind its helper functions a text with fewer operators stands for the text before its first external.
use Rattle.std.specs.Prelude.{◌≡◌, ℕ, ◌⊎◌, Bool, true, List, map, Some}
use Rattle.std.specs.List.{list_any}
use Rattle.c_syntax.specs.Plain.{CUnit}
use Rattle.c_syntax.specs.Words.{meaning}
use Rattle.c_types.specs.Scope.{contains, built_ins}
use Rattle.c_types.specs.Units.{defined_in, start_scope}
use Rattle.c_helpers.specs.Functions.{Helper, print_format, format_name}
use Rattle.c_helpers.specs.Laws.{is_strange}
use Rattle.c_fewer_types.specs.Stands.{function_type, helper_type}
use Rattle.c_fewer_items.specs.Files.{FilesStand}
use Rattle.c_fewer_items.specs.FewerHeadsLaws.{all_functions, firsts, file, names_behind}

-- a name is that of a helper function that stands for an operator, or of one of these formats
abbrev pub IsOperator : List (List ℕ) → List ℕ → Type 0
IsOperator formats name = ((g : Helper) × (meaning all_functions name ≡ Some g) × (helper_type name ≡ Some (function_type g))) ⊎ ((format : List ℕ) × (name ≡ format_name format) × (contains formats format ≡ true))

-- the names that pass the test are those of the text, of operators and of formats, and all functions among them are defined
pub record Passes (test : List ℕ → Bool) (formats defined : List (List ℕ)) (u : CUnit) : Type 0 where
  pub operators : (name : List ℕ) → list_any is_strange name ≡ true → test name ≡ true → IsOperator formats name
  pub helpers : (name : List ℕ) → list_any is_strange name ≡ true → test name ≡ true → contains defined name ≡ true
  pub own : (name : List ℕ) → test name ≡ true → contains (defined_in u.items) name ≡ true → contains defined name ≡ true

abbrev pub StartsStand : Type 0
StartsStand =
    (test : List ℕ → Bool) (names formats defined : List (List ℕ)) (u : CUnit) → Passes test formats defined u → FilesStand test (start_scope u) (file defined (names_behind names (map print_format formats) (names_behind names firsts built_ins)))
