-- The functions to which the objects of file scope point at first.
use Rattle.std.specs.Prelude.{◌≡◌, Bool, true, ℕ, List, [], ◌∷◌}
use Rattle.c_syntax.specs.Plain as plain
use Rattle.c_syntax.specs.Plain.{CItem}
use Rattle.c_eval.specs.Environment.{Environment}
use Rattle.c_eval.specs.Text.{file_objects}
use Rattle.c_fewer_types.specs.Standing.{FirstHas}
use Rattle.c_fewer_items.specs.Kept.{StartsAt}
use Rattle.c_worlds.specs.Named.{ObjectsAreNamed}

-- the names at whose starts first values at file scope point pass it
abbrev pub FirstsStartAt : (List ℕ → Type 0) → List CItem → Type 0
FirstsStartAt P [] = Unit {0}
FirstsStartAt P (plain.Object d ∷ items) = FirstHas (StartsAt P) d.first × FirstsStartAt P items
FirstsStartAt P (item ∷ items) = FirstsStartAt P items

-- so the functions to which the objects point at first pass it
abbrev pub FileObjectsAreNamed : Type 0
FileObjectsAreNamed =
    (test : List ℕ → Bool) (items : List CItem) (here : Environment) → FirstsStartAt (λ name. test name ≡ true) items → ObjectsAreNamed (λ name. test name ≡ true) (file_objects items here)
