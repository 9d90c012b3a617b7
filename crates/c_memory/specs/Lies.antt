-- How the objects of a run of C lie in the memory of a program.
use Rattle.std.specs.Prelude.{◌≡◌, ℕ, ◌+◌, ◌^◌, ◌<◌, ◌≤◌, Bool, true, List, [], ◌∷◌, ◌++◌, length, map, take, drop, Option, Some, slice_get, slice_set, get_or}
use Rattle.eir_core.specs.Memory.{Memory, word_at}
use Rattle.c_eval.specs.State.{Value, Word, Null, Point, Letter, Function, Missing, Cell, Unset, Holds, Object}
use Rattle.c_eval.specs.Memory.{live_cells, cell_in, with_cell, live_object, dead}

-- where an object lies, and how many words it has
pub record Extent : Type 0 where
  pub at : ℕ
  pub words : ℕ

abbrev pub nowhere : Extent
nowhere = record { at = 0; words = 0 }

-- by number; a dead object keeps its place
abbrev pub extent : List Extent → ℕ → Extent
extent bs o = get_or bs o nowhere

abbrev pub base : List Extent → ℕ → ℕ
base bs o = (extent bs o).at

abbrev pub words_at : List Extent → ℕ → ℕ
words_at bs o = (extent bs o).words

-- to which objects pointers point: to all, or in a helper function to those that were there before it
pub data Reach : Type 0 where
  Whole : Reach
  Before : (n : ℕ) → Reach

abbrev pub reached : Reach → List Extent → ℕ
reached Whole bs = length bs
reached (Before n) bs = n

-- what functions and literals are in a program
pub record Ground : Type 0 where
  pub reach : Reach
  -- a function's first block
  pub entry : List ℕ → ℕ
  -- the functions to which pointers point
  pub valued : List ℕ → Bool
  -- a literal's address, and its text where there is one
  pub literal : Option (List ℕ) → ℕ → ℕ
  pub text : Option (List ℕ) → ℕ → Option (List ℕ)

-- a word means a value: a pointer is into its object or at its end
abbrev pub Means : Ground → List Extent → Value → ℕ → Type 0
Means g bs (Word n) w = (w ≡ n) × (n < 2 ^ 24)
Means g bs Null w = w ≡ 0
Means g bs (Point o k) w = (o < reached g.reach bs) × (k ≤ words_at bs o) × (w ≡ base bs o + k)
Means g bs (Letter f i text k) w = (g.text f i ≡ Some text) × (k ≤ length text + 1) × (w ≡ g.literal f i + k)
Means g bs (Function name) w = (g.valued name ≡ true) × (w ≡ g.entry name)
Means g bs Missing w = Unit {0}

abbrev pub MeansCell : Ground → List Extent → Cell → ℕ → Type 0
MeansCell g bs Unset w = Unit {0}
MeansCell g bs (Holds v) w = Means g bs v w

-- the cell of a live object
abbrev pub cell_of : List Object → ℕ → ℕ → Option Cell
cell_of os o k = cell_in (live_cells (slice_get os o)) k

-- each live cell's value stands at its address, below the top; no two live cells have one address, no object lies at 0 or past the last address, and each has a word
pub record Lies (g : Ground) (bs : List Extent) (os : List Object) (mem : Memory) (top : ℕ) : Type 0 where
  pub count : length bs ≡ length os
  pub seen : reached g.reach bs ≤ length bs
  pub each : (o : ℕ) (x : Object) → slice_get os o ≡ Some x → (1 ≤ base bs o) × (base bs o + length x.cells < 2 ^ 24)
  pub full : (o : ℕ) (x : Object) → slice_get os o ≡ Some x → (1 ≤ length x.cells) × (words_at bs o ≡ length x.cells)
  pub cells : (o k : ℕ) (c : Cell) → cell_of os o k ≡ Some c → MeansCell g bs c (word_at mem (base bs o + k))
  pub below : (o k : ℕ) (c : Cell) → cell_of os o k ≡ Some c → base bs o + k < top
  pub apart : (o k q j : ℕ) (c d : Cell) → cell_of os o k ≡ Some c → cell_of os q j ≡ Some d → base bs o + k ≡ base bs q + j → (o ≡ q) × (k ≡ j)

-- no live cell lies at the address
abbrev pub IsFree : List Extent → List Object → ℕ → Type 0
IsFree bs os a = (o k : ℕ) (c : Cell) → cell_of os o k ≡ Some c → base bs o + k ≡ a → ⊥

-- what a part of a run leaves: objects stay where they are, cells that are live were live before, and free words below the top are kept
pub record Post (top : ℕ) (bs : List Extent) (os : List Object) (mem : Memory) (bs1 : List Extent) (os1 : List Object) (mem1 : Memory) : Type 0 where
  pub longer : length bs ≤ length bs1
  pub grown : (o : ℕ) → o < length bs → extent bs1 o ≡ extent bs o
  pub held : (o k : ℕ) (c : Cell) → cell_of os1 o k ≡ Some c → (d : Cell) × (cell_of os o k ≡ Some d) × (base bs1 o ≡ base bs o)
  pub keeps : (a : ℕ) → a < top → IsFree bs os a → word_at mem1 a ≡ word_at mem a

-- a cell of an object holds a value
abbrev pub with_stored : List Object → ℕ → ℕ → Value → List Object
with_stored os o k v = slice_set os o (with_cell (slice_get os o) k v)

-- ---- blocks

-- new objects one after the other, from a word on
abbrev pub bases_from : ℕ → List (List Cell) → List Extent
bases_from a [] = []
bases_from a (cells ∷ more) = record { at = a; words = length cells } ∷ bases_from (a + length cells) more

abbrev pub words_of_all : List (List Cell) → ℕ
words_of_all [] = 0
words_of_all (cells ∷ more) = length cells + words_of_all more

-- with new objects
abbrev pub with_new : List Object → List (List Cell) → List Object
with_new os new = os ++ map live_object new

-- the objects from a number on are dead
abbrev pub left_from : ℕ → List Object → List Object
left_from n os = take n os ++ map dead (drop n os)

-- each new object has a word, and its words mean its cells
abbrev pub NewMean : Ground → List Extent → Memory → ℕ → List (List Cell) → Type 0
NewMean g bs mem a [] = Unit {0}
NewMean g bs mem a (cells ∷ more) = (1 ≤ length cells) × ((k : ℕ) (c : Cell) → slice_get cells k ≡ Some c → MeansCell g bs c (word_at mem (a + k))) × NewMean g bs mem (a + length cells) more
