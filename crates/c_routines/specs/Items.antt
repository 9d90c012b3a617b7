-- Code with labels in it, and where it stands in a program.
use Rattle.std.specs.Prelude.{◌≡◌, ℕ, ◌+◌, ◌%◌, ◌^◌, ◌<◌, Bool, true, false, List, [], ◌∷◌, length, Some}
use Rattle.std.proofs.Common.{lit<}
use Rattle.std.proofs.Math.Nat.{mod-lt}
use Rattle.word24.specs.declared.word.Word.{Word}
use Rattle.eir_core.specs.declared.ops.Operand.{Operand}
use Rattle.eir_core.specs.declared.ops.Operand.TheVariants.{Imm}
use Rattle.eir_core.specs.declared.ops.Op.{Op}
use Rattle.eir_core.specs.declared.ops.Op.TheVariants as eir
use Rattle.eir_core.specs.Eir.{Eir, is_jump}
use Rattle.eir_core.specs.Memory.{Memory}
use Rattle.eir_core.specs.Step.{Regs, op_in, onward}
use Rattle.c_place.specs.Place.{Place, front}
use Rattle.c_routines.specs.declared.item.Item.{Item}
use Rattle.c_routines.specs.declared.item.Item.TheVariants.{Does, Label, Jump, JumpIf, MoveLabel}

-- the word that a number is modulo 2^24, as an operand
abbrev pub wrapped : ℕ → Word
wrapped number = record { value = number % 2 ^ 24; in_range = mod-lt number (lit< tt) }

abbrev pub constant : ℕ → Operand
constant number = Imm (wrapped number)

-- label number k of those that begin with a label; labels are counted modulo 2^32
unfoldable pub label_of : (base k : ℕ) → ℕ
label_of base k = (base + k) % 2 ^ 32

-- the operation of an item, where the labels are at these blocks; to come to a label is as a jump to it
abbrev pub op_at : (ℕ → ℕ) → Item → Op
op_at at (Does op) = op
op_at at (Label l) = eir.Jump (constant (at l))
op_at at (Jump l) = eir.Jump (constant (at l))
op_at at (JumpIf test l r v) = eir.JumpIf test (constant (at l)) r v
op_at at (MoveLabel r l) = eir.Mov r (constant (at l))

-- a block ends with the item
abbrev pub ends_block : Item → Bool
ends_block (Does op) = is_jump op
ends_block (Label l) = true
ends_block (Jump l) = true
ends_block (JumpIf test l r v) = true
ends_block (MoveLabel r l) = false

-- a program has the operation at a place, and goes on at another with what stands after it
pub record Leads (p : Eir) (s : Place) (op : Op) (t : Place) : Type 0 where
  pub here : op_in p s.block s.index ≡ Some op
  pub inside : s.block < length p.blocks
  pub goes : (r : Regs) (m : Memory) → onward p (record { block = s.block; index = s.index; regs = r; memory = m }) r m ≡ record { block = t.block; index = t.index; regs = r; memory = m }

-- code stands in a program from a place on, with its labels at these blocks
abbrev pub Stands : Eir → (ℕ → ℕ) → Place → List Item → Type 0
Stands p at s [] = Unit {0}
Stands p at s (Label l ∷ items) = (s ≡ front (at l)) × (at l < 2 ^ 24) × Stands p at s items
Stands p at s (item ∷ items) = (t : Place) × Leads p s (op_at at item) t × Stands p at t items

-- operations, and what stands after them
abbrev pub does : List Op → List Item → List Item
does [] items = items
does (op ∷ ops) items = Does op ∷ does ops items
