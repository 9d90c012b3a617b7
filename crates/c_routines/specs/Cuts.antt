-- Code with labels, cut into blocks after each jump and before each label.
use Rattle.std.specs.Prelude.{◌≡◌, ℕ, suc, ◌^◌, ◌<◌, ◌≤◌, Bool, true, false, not, nat_eq, List, [], ◌∷◌, length, if◌then◌else◌}
use Rattle.word24.specs.declared.word.Word.{Word}
use Rattle.eir_core.specs.declared.ops.Op.{Op}
use Rattle.eir_core.specs.Eir.{Eir}
use Rattle.c_place.specs.Place.{front}
use Rattle.c_routines.specs.declared.item.Item.{Item}
use Rattle.c_routines.specs.declared.item.Item.TheVariants.{Label}
use Rattle.c_routines.specs.Items.{op_at, ends_block, Stands}

-- what still belongs to the block before, and the blocks after it
pub record Cut : Type 0 where
  pub head : List Op
  pub rest : List (List Op)

-- no block is empty
abbrev pub filled : List Op → List (List Op) → List (List Op)
filled [] blocks = blocks
filled (op ∷ ops) blocks = (op ∷ ops) ∷ blocks

abbrev pub blocks_of : Cut → List (List Op)
blocks_of c = filled c.head c.rest

-- an operation stands before what was cut, and is the last one of its block or not
abbrev pub cut_before : Bool → Op → Cut → Cut
cut_before last op c = if last then record { head = op ∷ []; rest = blocks_of c } else record { head = op ∷ c.head; rest = c.rest }

abbrev pub cut_items : (ℕ → ℕ) → List Item → Cut
cut_items at [] = record { head = []; rest = [] }
cut_items at (Label l ∷ items) = record { head = []; rest = blocks_of (cut_items at items) }
cut_items at (item ∷ items) = cut_before (ends_block item) (op_at at item) (cut_items at items)

-- the program of this code, with its labels at these blocks, and of these data words; it begins with the first block
abbrev pub program_of : (ℕ → ℕ) → List Item → List Word → Eir
program_of at items words = record { blocks = blocks_of (cut_items at items); words = words; start = 0 }

-- the number of the block that begins next, where k blocks came before, and one more is open or not
abbrev pub next_block : (k : ℕ) (within : Bool) → ℕ
next_block k true = suc k
next_block k false = k

-- how many blocks that aren't empty stand before a label, with those before
abbrev pub place_in : (k : ℕ) (within : Bool) → List Item → ℕ → ℕ
place_in k within [] name = 0
place_in k within (Label l ∷ items) name = if nat_eq l name then next_block k within else place_in (next_block k within) false items name
place_in k within (item ∷ items) name = place_in (if ends_block item then suc k else k) (not (ends_block item)) items name

abbrev pub block_at : List Item → ℕ → ℕ
block_at items = place_in 0 false items

-- code is linked: its labels are the numbers of their blocks
abbrev pub linked : List Item → List Word → Eir
linked items words = program_of (block_at items) items words

-- the labels rise strictly, from this one on
abbrev pub Rises : ℕ → List Item → Type 0
Rises low [] = Unit {0}
Rises low (Label l ∷ items) = (low ≤ l) × Rises (suc l) items
Rises low (item ∷ items) = Rises low items

-- each label is the number of the block that begins there
abbrev pub Numbered : (ℕ → ℕ) → (k : ℕ) (within : Bool) → List Item → Type 0
Numbered at k within [] = Unit {0}
Numbered at k within (Label l ∷ items) = (at l ≡ next_block k within) × (at l < 2 ^ 24) × Numbered at (next_block k within) false items
Numbered at k within (item ∷ items) = Numbered at (if ends_block item then suc k else k) (not (ends_block item)) items

-- code whose labels rise is numbered where it is linked, and stands whole in its program, from the first block on
pub record LinkedCodeStands : Type 0 where
  pub numbered : (items : List Item) (words : List Word) → Rises 0 items → length (linked items words).blocks < 2 ^ 24 → Numbered (block_at items) 0 false items
  pub stands : (items : List Item) (words : List Word) → Rises 0 items → length (linked items words).blocks < 2 ^ 24 → Stands (linked items words) (block_at items) (front 0) items
