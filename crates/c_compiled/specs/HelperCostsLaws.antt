-- What the helper functions cost that a program keeps.
use Rattle.std.specs.Prelude.{◌≡◌, ℕ, ◌+◌, ◌*◌, ◌≤◌, ◌<◌, Bool, true, false, not, ◌&&◌, ◌||◌, ◌==◌, nat_lt, List, map, drop, Option, Some, None, Ok, if◌then◌else◌}
use Rattle.std.specs.List.{list_any, flat_map}
use Rattle.c_syntax.specs.Plain.{CStmt, CItem, CUnit}
use Rattle.c_syntax.specs.Words.{meaning}
use Rattle.c_types.specs.Scope.{Scope, contains}
use Rattle.c_types.specs.Operands.{conversions_of}
use Rattle.c_types.specs.Statements.{Around}
use Rattle.c_types.specs.Units.{body_judged}
use Rattle.c_types.specs.Census.{Tally, body_sum, items_sum}
use Rattle.c_types.specs.Limits.{string_words, initialised_words}
use Rattle.c_types.specs.Room.{Kind, kind_number, letter_kinds, kinds_at, uses_of, kinds_of}
use Rattle.c_fewer_types.specs.Written.{StringsAreShort}
use Rattle.c_helpers.specs.Functions.{Helper, functions}
use Rattle.c_helpers.specs.Laws.{each, total}
use Rattle.c_helpers.specs.Meanings.{is_format}
use Rattle.c_helpers.specs.Names.{stmt_names}
use Rattle.c_helpers.specs.Fewer.{fewer_in_body, function_of}
use Rattle.c_helpers.specs.Simple.{kept, locals_in}
use Rattle.c_helpers.specs.Cost.{items_cost, helper_cost}
use Rattle.c_fewer_types.specs.Standing.{StmtHas, IsDeclaration}
use Rattle.c_worlds.specs.Named.{Each}
use Rattle.c_fewer_items.specs.FewerHeadsLaws.{firsts}
use Rattle.c_fewer_names.specs.FewerKnownLaws.{operators, NamesAreOfText}
use Rattle.c_programs.specs.Programs.{IsProgram}
use Rattle.c_fewer_names.specs.Names.{kept_in}

-- what a helper function costs, with 8 for each word of its locals
abbrev pub helper_room : Helper → ℕ
helper_room h = helper_cost h + 8 * locals_in h.body

-- the kinds of operators that occur in a text
abbrev pub occurs_in : CUnit → Kind → Bool
occurs_in u kind = nat_lt 0 (uses_of kind u)

-- the helper functions of these kinds cost at most 2048 for each
abbrev pub KindsPay : Type 0
KindsPay = (u : CUnit) → total (λ h. if list_any (occurs_in u) h.kinds then helper_room h else 0) functions ≤ 2048 * kinds_of u

-- a helper function of that name has a kind that occurs
abbrev pub has_kind : (Kind → Bool) → Option Helper → Bool
has_kind occurs None = true
has_kind occurs (Some h) = list_any occurs h.kinds

-- the kinds of a format's conversions occur
abbrev pub letters_occur : (Kind → Bool) → Option (List ℕ) → Bool
letters_occur occurs None = false
letters_occur occurs (Some letters) = each occurs (flat_map letter_kinds letters)

-- a name of a text, or of a helper function of a kind that occurs, or of a format whose conversions do
abbrev pub is_called : (Kind → Bool) → List ℕ → Bool
is_called occurs name = has_kind occurs (meaning operators name) && (not (is_format name) || letters_occur occurs (conversions_of (drop 7 name)))

-- for each kind: the expressions of a tree that make use of it
abbrev pub uses : Kind → Tally
uses kind = record { expr = λ s e. if list_any (λ k. kind_number k == kind_number kind) (kinds_at s e) then 1 else 0; node = 0; ty = λ tags t. 0; object = λ tags t v. 0 }

-- a typed body with fewer operators has such names alone, where the kinds that it makes use of occur
abbrev pub BodiesCallByKinds : Type 0
BodiesCallByKinds =
    (occurs : Kind → Bool) (s : Scope) (w : Around) (body : CStmt) (r : Scope) → NamesAreOfText s → StmtHas StringsAreShort IsDeclaration body → body_judged s w (Some body) ≡ Ok r → ((k : Kind) → 0 < body_sum (uses k) s body → occurs k ≡ true)
    → Each (λ name. is_called occurs name ≡ true) (stmt_names (fewer_in_body s body))

-- those that a program keeps cost at most 2048 for each kind of operator that occurs in it
abbrev pub KeptHelpersFit : Type 0
KeptHelpersFit = (u : CUnit) → IsProgram u → total (λ h. if contains (kept_in u) h.name then helper_room h else 0) functions ≤ 2048 * kinds_of u

-- the words of initialised objects and of string literals
abbrev pub words : Tally
words = record { expr = λ s e. string_words e; node = 0; ty = λ tags t. 0; object = initialised_words }

-- all helper functions but those of formats, as externals; three are told of alone
abbrev pub helper_items : List CItem
helper_items = map function_of firsts

-- so they do as externals, in each scope, with 16 for each that is told of
abbrev pub HelpersFit : Type 0
HelpersFit = (u : CUnit) (s : Scope) → IsProgram u → items_cost (map (kept (kept_in u)) helper_items) + 8 * items_sum words s (map (kept (kept_in u)) helper_items) ≤ 2048 * kinds_of u + 48
