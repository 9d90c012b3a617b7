-- Places in a program, code that stands at them, and the moments of a run there.
use Rattle.std.specs.Prelude.{◌≡◌, ℕ, suc, ◌+◌, ◌<◌, cond, List, [], ◌∷◌, length, Option, Some, if◌then◌else◌}
use Rattle.mach_core.specs.Rule.{Moment}
use Rattle.word24.specs.Word.{sum_word, difference_word}
use Rattle.eir_core.specs.declared.ops.Op.{Op}
use Rattle.eir_core.specs.declared.ops.Op.TheVariants.{Mov, Add, Sub, Load, Store, Set}
use Rattle.eir_core.specs.Eir.{Eir, is_jump}
use Rattle.eir_core.specs.Memory.{Memory, word_at, with_word}
use Rattle.eir_core.specs.Step.{Regs, Config, reg_of, with_reg, value_of, holds, op_in, onward}

pub record Place : Type 0 where
  pub block : ℕ
  pub index : ℕ

-- before the first operation of a block
abbrev pub front : ℕ → Place
front k = record { block = k; index = 0 }

-- behind an operation, and behind several
abbrev pub behind : Place → Op → Place
behind s op = if is_jump op then front (suc s.block) else record { block = s.block; index = s.index + 1 }

abbrev pub behind_all : Place → List Op → Place
behind_all s [] = s
behind_all s (op ∷ ops) = behind_all (behind s op) ops

-- a program has the operation at the place, and goes on with what stands behind it
pub record Has (p : Eir) (s : Place) (op : Op) : Type 0 where
  pub here : op_in p s.block s.index ≡ Some op
  pub inside : s.block < length p.blocks
  pub goes : (r : Regs) (m : Memory) → onward p (record { block = s.block; index = s.index; regs = r; memory = m }) r m ≡ record { block = (behind s op).block; index = (behind s op).index; regs = r; memory = m }

-- code stands in a program from a place on
abbrev pub Stands : Eir → Place → List Op → Type 0
Stands p s [] = Unit {0}
Stands p s (op ∷ ops) = Has p s op × Stands p (behind s op) ops

-- ---- runs

pub record Machine : Type 0 where
  pub regs : Regs
  pub memory : Memory

-- the moment at a place, with so many bytes taken and this output
abbrev pub moment : Place → Machine → ℕ → List ℕ → Moment Config
moment s m taken output = record { config = record { block = s.block; index = s.index; regs = m.regs; memory = m.memory }; taken = taken; output = output }

-- an operation that neither jumps nor takes nor writes a byte
abbrev pub IsQuiet : Op → Type 0
IsQuiet (Mov r v) = Unit {0}
IsQuiet (Add r v) = Unit {0}
IsQuiet (Sub r v) = Unit {0}
IsQuiet (Load r v) = Unit {0}
IsQuiet (Store r v) = Unit {0}
IsQuiet (Set test r v) = Unit {0}
IsQuiet op = ⊥

abbrev pub AreQuiet : List Op → Type 0
AreQuiet [] = Unit {0}
AreQuiet (op ∷ ops) = IsQuiet op × AreQuiet ops

-- what a quiet operation makes of the registers and the memory
abbrev pub made : Op → Machine → Machine
made (Mov r v) m = record m { regs = with_reg m.regs r (value_of m.regs v) }
made (Add r v) m = record m { regs = with_reg m.regs r (sum_word (reg_of m.regs r) (value_of m.regs v)) }
made (Sub r v) m = record m { regs = with_reg m.regs r (difference_word (reg_of m.regs r) (value_of m.regs v)) }
made (Load r v) m = record m { regs = with_reg m.regs r (word_at m.memory (value_of m.regs v)) }
made (Store r v) m = record m { memory = with_word m.memory (value_of m.regs v) (reg_of m.regs r) }
made (Set test r v) m = record m { regs = with_reg m.regs r (cond (holds test (reg_of m.regs r) (value_of m.regs v)) 1 0) }
made op m = m

abbrev pub made_all : List Op → Machine → Machine
made_all [] m = m
made_all (op ∷ ops) m = made_all ops (made op m)
