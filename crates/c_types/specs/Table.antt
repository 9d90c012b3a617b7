-- The table of types.
use Rattle.std.specs.Prelude.{◌≡◌, ℕ, ◌<◌, List, [], ◌∷◌, ◌++◌, length, map, Option, Some, None, slice_get}
use denote.Ref.{Bor}
use Rattle.c_types.specs.Types as types
use Rattle.c_types.specs.Types.{CType}
use Rattle.c_types.specs.declared.shape.Shape.{Shape}
use Rattle.c_types.specs.declared.shape.Shape.TheVariants.{Pointer, Array, Function, MoreType}
use Rattle.c_types.specs.Known.{Known, OneType, says}

-- the names of the tags, and the shapes in the order of their numbers
pub record Table : Type 0 where
  pub tags : List (List ℕ)
  pub shapes : List Shape

abbrev pub texts : List (Bor (List ℕ)) → List (List ℕ)
texts keys = map (λ k. k.now) keys

abbrev pub known_or : Option Known → Known
known_or (Some k) = k
known_or None = OneType types.Void

-- one shape after the other
abbrev pub known_behind : List (List ℕ) → List Known → List Shape → List Known
known_behind tags known [] = known
known_behind tags known (shape ∷ shapes) = known_behind tags (known ++ known_or (says tags known shape) ∷ []) shapes

abbrev pub known_by : List (List ℕ) → List Shape → List Known
known_by tags shapes = known_behind tags [] shapes

abbrev pub table_of : List (Bor (List ℕ)) → List Shape → Table
table_of tags shapes = record { tags = texts tags; shapes = shapes }

-- what each number is known to be
abbrev pub known : Table → List Known
known t = known_by t.tags t.shapes

-- a number is that of a type
abbrev pub HasType : Table → ℕ → CType → Type 0
HasType table n t = slice_get (known table) n ≡ Some (OneType t)

abbrev pub IsType : Table → ℕ → Type 0
IsType table n = (t : CType) × HasType table n t

-- what a shape is made of has lower numbers
abbrev pub PartsBelow : Shape → ℕ → Type 0
PartsBelow (Pointer t) n = t < n
PartsBelow (Array t count) n = t < n
PartsBelow (Function t ts) n = (t < n) × (ts < n)
PartsBelow (MoreType t ts) n = (t < n) × (ts < n)
PartsBelow _ n = Unit {0}

-- each shape says what its number is known to be, and no two numbers are those of one thing
pub record AreMade (tags : List (List ℕ)) (shapes : List Shape) (known : List Known) : Type 0 where
  pub as_long : length known ≡ length shapes
  pub made : (n : ℕ) (shape : Shape) → slice_get shapes n ≡ Some shape → (says tags known shape ≡ slice_get known n)
  pub below : (n : ℕ) (shape : Shape) → slice_get shapes n ≡ Some shape → PartsBelow shape n
  pub one : (m n : ℕ) (k : Known) → slice_get known m ≡ Some k → slice_get known n ≡ Some k → m ≡ n
  pub tag : (m n : ℕ) (name : List ℕ) → slice_get tags m ≡ Some name → slice_get tags n ≡ Some name → m ≡ n

abbrev pub IsMade : List (Bor (List ℕ)) → List Shape → Type 0
IsMade tags shapes = AreMade (texts tags) shapes (known_by (texts tags) shapes)
