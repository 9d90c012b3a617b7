-- All helper functions in front of a text, those of formats too.
use Rattle.std.specs.Prelude.{◌≡◌, ℕ, ◌<◌, ◌^◌, true, List, [], ◌∷◌, ◌++◌, map, length, Option, Some, Ok, false}
use Rattle.std.specs.List.{find}
use Rattle.std.specs.Str.{bytes_eq}
use Rattle.c_syntax.specs.Plain.{CItem}
use Rattle.c_syntax.specs.Words.{meaning}
use Rattle.c_types.specs.Scope.{Scope, Routine, contains, built_ins, file_scope}
use Rattle.c_types.specs.Operands.{conversions_of}
use Rattle.c_types.specs.Units.{all_items}
use Rattle.c_eval.specs.Text.{Definition, definitions, behind_items, file_objects}
use Rattle.c_helpers.specs.Functions.{Helper, print_format, format_name}
use Rattle.c_helpers.specs.Laws.{are_distinct}
use Rattle.c_helpers.specs.Names.{stmt_names}
use Rattle.c_helpers.specs.Fewer.{formats_in}
use Rattle.c_fewer_types.specs.Stands.{function_type}
use Rattle.c_fewer_items.specs.Laws.{place}
use Rattle.c_fewer_items.specs.FewerHeadsLaws.{all_functions, firsts, helper_items, file, names_behind, CallsAreDefined}

-- formats that `printf` takes, each of fewer than 2^24 conversions
abbrev pub AreFormats : List (List ℕ) → Type 0
AreFormats [] = Unit {0}
AreFormats (format ∷ formats) = ((letters : List ℕ) × (conversions_of format ≡ Some letters) × (length letters < 2 ^ 24)) × AreFormats formats

-- what is kept of them calls only what the text defines
abbrev pub FormatsCallDefined : List (List ℕ) → List (List ℕ) → Type 0
FormatsCallDefined names defined =
    (format other : List ℕ) (c : Helper) → contains names (format_name format) ≡ true → meaning all_functions other ≡ Some c → contains (stmt_names (print_format format).body) other ≡ true → contains defined other ≡ true

-- all are typed in front of a text, and then known
abbrev pub FrontsAreTyped : Type 0
FrontsAreTyped =
    (names defined formats : List (List ℕ)) → CallsAreDefined names defined → FormatsCallDefined names defined → AreFormats formats → are_distinct formats ≡ true
    → all_items (file_scope defined) (helper_items names (firsts ++ map print_format formats)) ≡ Ok (file defined (names_behind names (map print_format formats) (names_behind names firsts built_ins)))

-- the function of each format is known behind them
abbrev pub FormatsAreKnown : Type 0
FormatsAreKnown =
    (names formats : List (List ℕ)) (format : List ℕ) → contains formats format ≡ true
    → meaning (names_behind names (map print_format formats) (names_behind names firsts built_ins)) (format_name format) ≡ Some (Routine (function_type (print_format format)) (contains names (format_name format)))

-- and a name that is none of theirs has the meaning that it had
abbrev pub OthersAreKept : Type 0
OthersAreKept =
    (names formats : List (List ℕ)) (name : List ℕ) → ((format : List ℕ) → name ≡ format_name format → ⊥)
    → meaning (names_behind names (map print_format formats) (names_behind names firsts built_ins)) name ≡ meaning (names_behind names firsts built_ins) name

-- no format of a text stands twice
abbrev pub FormatsAreDistinct : Type 0
FormatsAreDistinct = (items : List CItem) → are_distinct (formats_in items) ≡ true

-- ---- the text behind them

-- the functions of externals behind others are theirs behind those of the others
abbrev pub DefinitionsAreJoined : Type 0
DefinitionsAreJoined = (xs ys : List CItem) (s r : Scope) → all_items s xs ≡ Ok r → definitions s (xs ++ ys) ≡ definitions s xs ++ definitions r ys

-- helper functions add no object
abbrev pub FrontsHaveNoObjects : Type 0
FrontsHaveNoObjects =
    (names : List (List ℕ)) (gs : List Helper) (items : List CItem) (s r : Scope) → all_items s (helper_items names gs) ≡ Ok r → (objects : List (List ℕ × Option ℕ)) (next literals : ℕ)
    → (file_objects (helper_items names gs ++ items) (place s objects next literals) ≡ file_objects items (place r objects next literals))
    × (behind_items (helper_items names gs ++ items) (place s objects next literals) ≡ behind_items items (place r objects next literals))

-- and a name that is none of theirs is found behind them
abbrev pub FrontsHaveOwnNames : Type 0
FrontsHaveOwnNames =
    (names : List (List ℕ)) (gs : List Helper) (s : Scope) (name : List ℕ) (ds : List Definition) → contains (map (λ (g : Helper). g.name) gs) name ≡ false
    → find (λ (f : Definition). bytes_eq name f.name) (definitions s (helper_items names gs) ++ ds) ≡ find (λ (f : Definition). bytes_eq name f.name) ds
