-- The externals of a text with fewer operators are typed, and its functions stand for the text's.
use Rattle.std.specs.Prelude.{◌≡◌, ℕ, Bool, true, List, map, Option, Ok}
use Rattle.std.specs.List.{find}
use Rattle.std.specs.Str.{bytes_eq}
use Rattle.c_syntax.specs.Plain.{CItem}
use Rattle.c_types.specs.Scope.{Scope, contains}
use Rattle.c_types.specs.Units.{all_items}
use Rattle.c_eval.specs.Environment.{Environment}
use Rattle.c_eval.specs.Text.{Definition, definitions, behind_items, file_objects}
use Rattle.c_helpers.specs.Fewer.{fewer_in_items}
use Rattle.c_helpers.specs.Simple.{kept}
use Rattle.c_fewer_types.specs.Standing.{ScopesStand}
use Rattle.c_fewer_items.specs.Files.{FilesStand}
use Rattle.c_fewer_items.specs.Kept.{ItemsFit, FunctionsStand, MaybeDefinitionStands}

-- file scopes that stand for each other do so as the scopes of expressions do
abbrev pub FilesStandAsScopes : Type 0
FilesStandAsScopes = (test : List ℕ → Bool) (s s' : Scope) → FilesStand test s s' → ScopesStand (λ name. test name ≡ true) s s'

-- typed externals are typed with fewer operators, where those functions are kept that have some names, and behind them file scopes stand for each other as before; the functions that are kept stand for those that they were
abbrev pub ItemsStayTyped : Type 0
ItemsStayTyped =
    (test : List ℕ → Bool) (names : List (List ℕ)) (s s' : Scope) (items : List CItem) (r : Scope) → FilesStand test s s' → ItemsFit test names s items → all_items s items ≡ Ok r
    → (other : Scope) × (all_items s' (map (kept names) (fewer_in_items s items)) ≡ Ok other) × FilesStand test r other × FunctionsStand test names (definitions s items) (definitions s' (map (kept names) (fewer_in_items s items)))

-- a function with such a name is found in the one where it is in the other, and stands for it
abbrev pub FunctionsAreFound : Type 0
FunctionsAreFound =
    (test : List ℕ → Bool) (names : List (List ℕ)) (name : List ℕ) (fs gs : List Definition) → contains names name ≡ true → FunctionsStand test names fs gs
    → MaybeDefinitionStands test (find (λ (f : Definition). bytes_eq name f.name) fs) (find (λ (g : Definition). bytes_eq name g.name) gs)

-- before an external of file scope, with so many objects and string literals before it
abbrev pub place : Scope → List (List ℕ × Option ℕ) → ℕ → ℕ → Environment
place s objects next literals = record { scope = s; objects = objects; next = next; literals_before = literals }

-- the objects of file scope begin with the cells that they had, and each name has the object that it had
abbrev pub ObjectsStayTheSame : Type 0
ObjectsStayTheSame =
    (test : List ℕ → Bool) (names : List (List ℕ)) (s s' : Scope) (items : List CItem) (r : Scope) → FilesStand test s s' → ItemsFit test names s items → all_items s items ≡ Ok r → (objects : List (List ℕ × Option ℕ)) (next literals : ℕ)
    → (file_objects (map (kept names) (fewer_in_items s items)) (place s' objects next literals) ≡ file_objects items (place s objects next literals))
    × ((behind_items (map (kept names) (fewer_in_items s items)) (place s' objects next literals)).objects ≡ (behind_items items (place s objects next literals)).objects)
