-- The first memory of the program of a text.
use Rattle.std.specs.Prelude.{◌≡◌, ℕ, ◌+◌, ◌^◌, ◌<◌, ◌≤◌, Bool, true, not, ◌&&◌, ◌==◌, nat_lt, List, [], ◌∷◌, length, Option, Some, None, slice_get, if◌then◌else◌}
use Rattle.std.specs.List.{list_any}
use Rattle.eir_core.specs.Memory.{Memory}
use Rattle.eir_core.specs.Step.{eir_start}
use Rattle.c_syntax.specs.Plain.{CUnit}
use Rattle.c_eval.specs.State.{Cell, Object}
use Rattle.c_eval.specs.Memory.{same_owner}
use Rattle.c_eval.specs.Text.{text_of}
use Rattle.c_helpers.specs.Laws.{is_strange}
use Rattle.c_lowered.specs.Locations.{Location, Linking}
use Rattle.c_lowered.specs.Whole.{firsts_given, Literals, literals_of, frames, linking_of, address_in, cell_word, data_words, lowered}
use Rattle.c_memory.specs.Lies.{Extent, Whole, Ground, MeansCell, Lies}
use Rattle.c_landing.specs.Landing.{NamesLie, LettersLie}

-- where objects lie, by their locations, and their words
abbrev pub extents_of : List Location → List Object → List Extent
extents_of (l ∷ ls) (x ∷ xs) = record { at = address_in l; words = length x.cells } ∷ extents_of ls xs
extents_of _ _ = []

-- those of the objects of file scope
abbrev pub file_extents : CUnit → List Extent
file_extents u = extents_of (linking_of u).bases (text_of u).objects

-- the text of a literal, by the function in which it stands and how many stand before it there
abbrev pub literal_text : Literals → Option (List ℕ) → ℕ → Option (List ℕ)
literal_text [] owner number = None
literal_text (entry ∷ more) owner number = if same_owner entry.0 owner then slice_get entry.1 number else literal_text more owner number

-- a function that a name of the text stands for, and that has a first block: no helper function has such a name
abbrev pub is_valued : CUnit → List ℕ → Bool
is_valued u name = not (list_any is_strange name) && nat_lt 0 ((linking_of u).entry name)

-- what functions and literals are in the program
abbrev pub ground_of : CUnit → Ground
ground_of u = record { reach = Whole; entry = (linking_of u).entry; valued = is_valued u; literal = (linking_of u).literal; text = literal_text (literals_of u) }

abbrev pub memory_of : CUnit → Memory
memory_of u = (eir_start (lowered u)).memory

-- each object has a word, and the first word of each cell means what the cell holds: that of its value, or 0 in an object without a first value
abbrev pub FirstWordsMean : Ground → List Extent → Linking → List Bool → List Object → Type 0
FirstWordsMean g bs w (given ∷ more) (x ∷ xs) = (1 ≤ length x.cells) × ((k : ℕ) (c : Cell) → slice_get x.cells k ≡ Some c → MeansCell g bs c (if given then cell_word w c else 0)) × FirstWordsMean g bs w more xs
FirstWordsMean g bs w _ _ = Unit {0}

-- so it is in a text, whose data words are words and whose frames begin at an address
pub record DataIs (u : CUnit) : Type 0 where
  pub small : frames u < 2 ^ 24
  pub words : (k n : ℕ) → slice_get (data_words u) k ≡ Some n → n < 2 ^ 24
  pub mean : FirstWordsMean (ground_of u) (file_extents u) (linking_of u) (firsts_given u.items) (text_of u).objects

pub record DataLies (u : CUnit) : Type 0 where
  pub lies : Lies (ground_of u) (file_extents u) (text_of u).objects (memory_of u) (frames u)
  pub letters : LettersLie (ground_of u) (file_extents u) (text_of u).objects (memory_of u) (frames u)
  pub names : (bp : ℕ) → NamesLie (file_extents u) bp (linking_of u).bases (text_of u).names (text_of u).names
  -- a literal stands behind null's word and within the memory, and two of them have no word in common
  pub within : (owner : Option (List ℕ)) (number : ℕ) (text : List ℕ) → (ground_of u).text owner number ≡ Some text → (1 ≤ (ground_of u).literal owner number) × ((ground_of u).literal owner number + (length text + 1) < 2 ^ 24)
  pub apart : (owner other : Option (List ℕ)) (i j : ℕ) (text more : List ℕ) (k l : ℕ) → (ground_of u).text owner i ≡ Some text → (ground_of u).text other j ≡ Some more → k ≤ length text → l ≤ length more
      → (ground_of u).literal owner i + k ≡ (ground_of u).literal other j + l → (same_owner owner other && i == j) ≡ true

abbrev pub FirstMemoryLies : Type 0
FirstMemoryLies = (u : CUnit) → DataIs u → DataLies u
