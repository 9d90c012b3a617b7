-- The bytes of a text in the memory are written, up to the word 0.
use Rattle.std.specs.Prelude.{◌≡◌, ◌≢◌, ℕ, ◌+◌, ◌*◌, ◌%◌, ◌^◌, ◌<◌, List, [], ◌∷◌, ◌++◌, length, map}
use Rattle.mach_core.specs.Rule.{run_from}
use Rattle.eir_core.specs.declared.ops.Reg.TheVariants.{A, B, SP}
use Rattle.eir_core.specs.declared.ops.Operand.TheVariants.{Reg as register}
use Rattle.eir_core.specs.declared.ops.Cond.TheVariants.{Eq}
use Rattle.eir_core.specs.declared.ops.Op.TheVariants.{Load, Add, Putc, Jump as Go}
use Rattle.eir_core.specs.Eir.{Eir}
use Rattle.eir_core.specs.Memory.{Memory, word_at}
use Rattle.eir_core.specs.Step.{eir_rule}
use Rattle.c_place.specs.Place.{Place, Machine, moment}
use Rattle.c_routines.specs.declared.item.Item.{Item}
use Rattle.c_routines.specs.declared.item.Item.TheVariants.{Does, Label, Jump, JumpIf}
use Rattle.c_routines.specs.Items.{constant, label_of}
use Rattle.c_routines.specs.Lands.{Lands}

-- a byte is written, and the next address taken
abbrev pub byte : (again end : ℕ) → List Item → List Item
byte again end rest =
    Label again
    ∷ Does (Load B (register A))
    ∷ JumpIf Eq end B (constant 0)
    ∷ Does (Putc (register B))
    ∷ Does (Add A (constant 1))
    ∷ Jump again
    ∷ rest

abbrev pub text : ℕ → List Item
text base = byte (label_of base 0) (label_of base 1) (Label (label_of base 1) ∷ Does (Go (register SP)) ∷ [])

-- from an address on the memory has these words, none of them 0, and then the word 0
abbrev pub HasText : Memory → ℕ → List ℕ → Type 0
HasText mem address [] = (address < 2 ^ 24) × (word_at mem address ≡ 0)
HasText mem address (word ∷ words) = (address < 2 ^ 24) × (word_at mem address ≡ word) × (word ≢ 0) × HasText mem (address + 1) words

-- the byte that is written of each word
abbrev pub bytes_of : List ℕ → List ℕ
bytes_of words = map (λ word. word % 2 ^ 8) words

-- with the next address in A, and the word there in B
abbrev pub past : Machine → Machine
past m = record m { regs = record (m.regs) { a = m.regs.a + 1; b = word_at m.memory m.regs.a } }

-- the code stands at the place: a word other than 0 is written in five steps, which lead back to the place, with the next address; the word 0 ends it in three; and a whole text is written
pub record TextLands (p : Eir) (s : Place) : Type 0 where
  pub turn : (input : List ℕ) (m : Machine) (taken : ℕ) (output : List ℕ) → m.regs.a + 1 < 2 ^ 24 → word_at m.memory m.regs.a ≢ 0
      → run_from (eir_rule p) input (moment s m taken output) 5 ≡ moment s (past m) taken (output ++ word_at m.memory m.regs.a % 2 ^ 8 ∷ [])
  pub end : (input : List ℕ) (m : Machine) (taken : ℕ) (output : List ℕ) → word_at m.memory m.regs.a ≡ 0
      → Lands p input 0 0 s m taken output output 3 (λ a c. a ≡ m.regs.a)
  pub whole : (input : List ℕ) (m : Machine) (taken : ℕ) (output words : List ℕ) → HasText m.memory m.regs.a words
      → Lands p input 0 0 s m taken output (output ++ bytes_of words) (5 * length words + 3) (λ a c. a ≡ m.regs.a + length words)
