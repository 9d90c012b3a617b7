-- Words of string literals and of initialised objects, with fewer operators.
use Rattle.std.specs.Prelude.{◌≡◌, ℕ, ◌+◌, ◌≤◌, List, [], ◌∷◌, length, Some, Ok, drop, if◌then◌else◌}
use Rattle.c_syntax.specs.Plain.{CStmt}
use Rattle.c_types.specs.Scope.{Scope}
use Rattle.c_types.specs.Statements.{Around}
use Rattle.c_types.specs.Units.{body_judged}
use Rattle.c_types.specs.Census.{Tally, body_sum}
use Rattle.c_types.specs.Limits.{string_words, initialised_words}
use Rattle.c_fewer_types.specs.Written.{StringsAreShort}
use Rattle.c_helpers.specs.Meanings.{is_format}
use Rattle.c_helpers.specs.Names.{stmt_names}
use Rattle.c_helpers.specs.Fewer.{fewer_in_body}
use Rattle.c_fewer_types.specs.Standing.{StmtHas, IsDeclaration}
use Rattle.c_fewer_names.specs.FewerKnownLaws.{NamesAreOfText}

abbrev pub words : Tally
words = record { expr = λ s e. string_words e; node = 0; ty = λ tags t. 0; object = initialised_words }

-- those that formats had as literals, which are now in names of functions
abbrev pub format_words : List (List ℕ) → ℕ
format_words [] = 0
format_words (name ∷ names) = (if is_format name then length (drop 7 name) + 1 else 0) + format_words names

-- a typed body has no more of both than it had as literals and first values
abbrev pub WordsStayFew : Type 0
WordsStayFew =
    (s z : Scope) (w : Around) (body : CStmt) (r : Scope) → z.tags ≡ s.tags → NamesAreOfText s → StmtHas StringsAreShort IsDeclaration body → body_judged s w (Some body) ≡ Ok r
    → body_sum words z (fewer_in_body s body) + format_words (stmt_names (fewer_in_body s body)) ≤ body_sum words s body
