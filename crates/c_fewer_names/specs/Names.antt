-- A program with fewer operators, the functions that are reached in it, and the names that stand in them.
use Rattle.std.specs.Prelude.{◌≡◌, ℕ, Bool, true, not, ◌&&◌, ◌||◌, List, [], ◌∷◌, is_some}
use Rattle.std.specs.List.{list_any}
use Rattle.c_syntax.specs.Plain.{CItem, CUnit}
use Rattle.c_syntax.specs.Words.{meaning}
use Rattle.c_types.specs.Scope.{contains}
use Rattle.c_types.specs.Units.{defined_in, start_scope}
use Rattle.c_eval.specs.Text.{Definition}
use Rattle.c_helpers.specs.Laws.{is_strange}
use Rattle.c_helpers.specs.Meanings.{is_format}
use Rattle.c_helpers.specs.Names.{stmt_names}
use Rattle.c_helpers.specs.Fewer.{fewer_in_items, formats_in}
use Rattle.c_helpers.specs.Simple.{with_helpers, reached, desugared}
use Rattle.c_worlds.specs.Named.{Each}
use Rattle.c_fewer_names.specs.FewerKnownLaws.{operators}

-- the externals with fewer operators
abbrev pub fewer_items : CUnit → List CItem
fewer_items u = fewer_in_items (start_scope u) u.items

-- the functions that are reached, helper functions too
abbrev pub kept_in : CUnit → List (List ℕ)
kept_in u = reached (with_helpers (fewer_items u))

-- the formats that have functions
abbrev pub formats_of : CUnit → List (List ℕ)
formats_of u = formats_in (fewer_items u)

-- the functions that are then defined
abbrev pub defined_of : CUnit → List (List ℕ)
defined_of u = defined_in (desugared u).items

-- of a text that defines some functions and keeps some: a name of the text that is no function's that it doesn't keep
abbrev pub is_reached : (kept own : List (List ℕ)) → List ℕ → Bool
is_reached kept own name = not (list_any is_strange name) && (contains kept name || not (contains own name))

-- such a name, or that of a helper function for an operator or a format that is kept
abbrev pub passes : (kept own : List (List ℕ)) → List ℕ → Bool
passes kept own name = is_reached kept own name || (list_any is_strange name && (contains kept name && (is_some (meaning operators name) || is_format name)))

-- the names in the bodies of functions that are kept are such
abbrev pub BodiesReach : (kept : List (List ℕ)) → (List ℕ → Type 0) → List Definition → Type 0
BodiesReach kept P [] = Unit {0}
BodiesReach kept P (f ∷ fs) = (contains kept f.name ≡ true → Each P (stmt_names f.body)) × BodiesReach kept P fs
