-- What a routine comes to.
use Rattle.std.specs.Prelude.{◌≡◌, ◌⊎◌, ℕ, ◌+◌, ◌^◌, ◌<◌, ◌≤◌, List, ◌++◌}
use Rattle.mach_core.specs.Reaches.{Reaches}
use Rattle.word24.specs.Word.{IsWord}
use Rattle.eir_core.specs.Eir.{Eir}
use Rattle.eir_core.specs.Memory.{Memory, word_at}
use Rattle.eir_core.specs.Step.{Regs, eir_rule}
use Rattle.c_place.specs.Place.{Place, Machine, moment, front}
use Rattle.c_routines.specs.declared.item.Item.{Item}
use Rattle.c_routines.specs.Items.{Stands}

-- two memories differ in no word but so many from an address on
pub record Kept (first words : ℕ) (old new : Memory) : Type 0 where
  pub same : (q : ℕ) → (q < first) ⊎ (first + words ≤ q) → word_at new q ≡ word_at old q

-- a run comes from a place within so many steps, and with no fewer than one, to the block in SP: with a result in A and C, with what was written, with D, SP and BP as before, and the memory too but for some words
pub record Lands (p : Eir) (input : List ℕ) (first words : ℕ) (s : Place) (m : Machine) (taken : ℕ) (before after : List ℕ) (most : ℕ) (Result : ℕ → ℕ → Type 0) : Type 0 where
  pub regs : Regs
  pub memory : Memory
  pub comes : Reaches (eir_rule p) input (moment s m taken before) (moment (front m.regs.sp) (record { regs = regs; memory = memory }) taken after) 1 most
  pub d : regs.d ≡ m.regs.d
  pub sp : regs.sp ≡ m.regs.sp
  pub bp : regs.bp ≡ m.regs.bp
  pub kept : Kept first words m.memory memory
  pub result : Result regs.a regs.c

-- each run that comes to the place with two words in A and B that may be given lands: it makes of them what is said, writes what is said, and takes at most so many steps
pub record Serves (p : Eir) (first words : ℕ) (s : Place) (Needs : ℕ → ℕ → Type 0) (writes : ℕ → ℕ → List ℕ) (Makes : ℕ → ℕ → ℕ → ℕ → Type 0) (most : ℕ) : Type 0 where
  pub lands : (input : List ℕ) (m : Machine) (taken : ℕ) (output : List ℕ) → IsWord m.regs.a → IsWord m.regs.b → Needs m.regs.a m.regs.b
      → Lands p input first words s m taken output (output ++ writes m.regs.a m.regs.b) most (Makes m.regs.a m.regs.b)

-- code is a routine: it serves wherever it stands, with its labels from any one on at any blocks, and its words anywhere
abbrev pub IsRoutine : (code : (base first : ℕ) → List Item) (words : ℕ) (Needs : ℕ → ℕ → Type 0) (writes : ℕ → ℕ → List ℕ) (Makes : ℕ → ℕ → ℕ → ℕ → Type 0) (most : ℕ) → Type 0
IsRoutine code words Needs writes Makes most =
    (p : Eir) (at : ℕ → ℕ) (base first : ℕ) (s : Place) → first + words ≤ 2 ^ 24 → Stands p at s (code base first) → Serves p first words s Needs writes Makes most
