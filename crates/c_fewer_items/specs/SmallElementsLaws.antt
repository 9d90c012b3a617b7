-- The elements of a typed text within the limits.
use Rattle.std.specs.Prelude.{◌≡◌, ℕ, Bool, true, List, [], ◌∷◌}
use Rattle.c_syntax.specs.Plain.{CUnit}
use Rattle.c_types.specs.Limits.{is_small, IsTyped}
use Rattle.c_types.specs.Scope.{Scope}
use Rattle.c_types.specs.Units.{start_scope}
use Rattle.c_eval.specs.Text.{Definition, text_of}
use Rattle.c_limited.specs.Laws.{has_bytes}
use Rattle.c_fewer_meaning.specs.FewerStatementsOrdinary.{StmtIsOrdinary}
use Rattle.c_fewer_items.specs.Files.{FilesStand}
use Rattle.c_fewer_items.specs.Kept.{ItemsFit}

abbrev pub BodiesAreOrdinary : List Definition → Type 0
BodiesAreOrdinary [] = Unit {0}
BodiesAreOrdinary (f ∷ fs) = StmtIsOrdinary f.scope f.body × BodiesAreOrdinary fs

-- in the bodies of a typed text within the limits, whose names and literals are those of a text that is made into one with fewer operators, elements have fewer words than the least int below zero counts
abbrev pub TypedTextsAreOrdinary : Type 0
TypedTextsAreOrdinary =
    (test : List ℕ → Bool) (names : List (List ℕ)) (u : CUnit) (s' : Scope) → FilesStand test (start_scope u) s' → ItemsFit test names (start_scope u) u.items → IsTyped u → is_small u ≡ true → has_bytes u ≡ true
    → BodiesAreOrdinary (text_of u).functions
