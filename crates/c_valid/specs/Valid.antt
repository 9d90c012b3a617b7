-- Values as a run of a typed text has them: words below 2^24, bytes below 2^8, and offsets that an object or its end can have.
use Rattle.std.specs.Prelude.{ℕ, ◌+◌, ◌^◌, ◌<◌, List, [], ◌∷◌, length}
use Rattle.c_types.specs.Constants as constant
use Rattle.c_eval.specs.State.{Value, Word, Point, Letter, Cell, Unset, Holds, Object, State, Outcome, Gives, Ended, Going, Undefined}

-- each is a byte
abbrev pub AreBytes : List ℕ → Type 0
AreBytes [] = Unit {0}
AreBytes (c ∷ cs) = (c < 2 ^ 8) × AreBytes cs

-- an object has fewer cells than the least int below zero counts
abbrev pub most_cells : ℕ
most_cells = 2 ^ 23

-- the bytes of a string literal, which with its zero is an object
abbrev pub IsText : List ℕ → Type 0
IsText text = AreBytes text × (length text + 1 < most_cells)

abbrev pub IsValid : Value → Type 0
IsValid (Word n) = n < 2 ^ 24
IsValid (Point o k) = k < most_cells
IsValid (Letter f i text k) = IsText text × (k < most_cells)
IsValid v = Unit {0}

abbrev pub AreValid : List Value → Type 0
AreValid [] = Unit {0}
AreValid (v ∷ vs) = IsValid v × AreValid vs

abbrev pub CellIsValid : Cell → Type 0
CellIsValid Unset = Unit {0}
CellIsValid (Holds v) = IsValid v

abbrev pub CellsAreValid : List Cell → Type 0
CellsAreValid [] = Unit {0}
CellsAreValid (c ∷ cs) = CellIsValid c × CellsAreValid cs

-- an object of valid cells, not too many of them
abbrev pub ObjectIsValid : Object → Type 0
ObjectIsValid x = CellsAreValid x.cells × (length x.cells < most_cells)

abbrev pub ObjectsAreValid : List Object → Type 0
ObjectsAreValid [] = Unit {0}
ObjectsAreValid (x ∷ xs) = ObjectIsValid x × ObjectsAreValid xs

-- what is kept at each moment of a run
abbrev pub StateIsValid : State → Type 0
StateIsValid st = ObjectsAreValid st.objects

-- the value of a constant expression
abbrev pub ConstantIsWord : constant.Constant → Type 0
ConstantIsWord (constant.Value n) = n < 2 ^ 24
ConstantIsWord c = Unit {0}

-- however a part of a run ends, its state is valid, and so is what it gives
abbrev pub IsKept : {A : Type 0} → (A → Type 0) → Outcome A → Type 0
IsKept G (Gives a st) = G a × StateIsValid st
IsKept G (Ended st) = StateIsValid st
IsKept G (Going st) = StateIsValid st
IsKept G (Undefined act st) = StateIsValid st
