-- The names that a typed body has with fewer operators.
use Rattle.std.specs.Prelude.{◌≡◌, ℕ, ◌<◌, ◌^◌, Bool, true, ◌&&◌, ◌||◌, nat_le, not, List, map, length, Some, is_some, Ok, drop}
use Rattle.std.specs.List.{list_any}
use Rattle.c_syntax.specs.Plain.{CStmt}
use Rattle.c_syntax.specs.Words.{meaning}
use Rattle.c_types.specs.Scope.{Scope, Entity, entity_of}
use Rattle.c_types.specs.Operands.{conversions_of}
use Rattle.c_types.specs.Statements.{Around}
use Rattle.c_types.specs.Units.{body_judged}
use Rattle.c_fewer_types.specs.Written.{StringsAreShort}
use Rattle.c_helpers.specs.Functions.{Helper, functions}
use Rattle.c_helpers.specs.Laws.{is_strange}
use Rattle.c_helpers.specs.Meanings.{is_format}
use Rattle.c_helpers.specs.Names.{stmt_names}
use Rattle.c_helpers.specs.Fewer.{fewer_in_body}
use Rattle.c_fewer_types.specs.Standing.{IsTextName, StmtHas, IsDeclaration}
use Rattle.c_worlds.specs.Named.{Each}

-- the helper functions that a text calls for operators, by name
abbrev pub operators : List (List ℕ × Helper)
operators = map (λ (g : Helper). (g.name, g)) functions

-- a name of letters, digits and `_`, that of a helper function, or that of the function of a format that `printf` takes, of at most 2^22 bytes
abbrev pub is_known_name : List ℕ → Bool
is_known_name name = (not (list_any is_strange name) || is_some (meaning operators name)) || (is_format name && (is_some (conversions_of (drop 7 name)) && nat_le (length (drop 7 name)) (2 ^ 22)))

-- what is declared has names of letters, digits and `_`
abbrev pub NamesAreOfText : Scope → Type 0
NamesAreOfText s = (name : List ℕ) (x : Entity) → entity_of s name ≡ Some x → IsTextName name

-- a typed body evaluates no other names with fewer operators
abbrev pub NamesAreKnown : Type 0
NamesAreKnown =
    (s : Scope) (w : Around) (body : CStmt) (r : Scope) → NamesAreOfText s → StmtHas StringsAreShort IsDeclaration body → body_judged s w (Some body) ≡ Ok r → Each (λ name. is_known_name name ≡ true) (stmt_names (fewer_in_body s body))

-- so such a format has fewer than 2^24 conversions
abbrev pub FormatsHaveConversions : Type 0
FormatsHaveConversions = (name : List ℕ) → is_format name ≡ true → is_known_name name ≡ true → (letters : List ℕ) × (conversions_of (drop 7 name) ≡ Some letters) × (length letters < 2 ^ 24)
