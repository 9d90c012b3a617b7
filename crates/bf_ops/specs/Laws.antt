-- What holds of the definitions.
use Rattle.std.specs.Prelude.{◌≡◌, ℕ, ◌^◌, ◌<◌, not, cond}
use Rattle.eir_core.specs.declared.ops.Reg.{Reg}
use Rattle.eir_core.specs.declared.ops.Cond.{Cond}
use Rattle.eir_core.specs.Memory.{Memory, with_word as stored}
use Rattle.eir_core.specs.Step.{Regs, with_reg, holds}
use Rattle.bf_tape.specs.Tape.{Tape}
use Rattle.bf_word.specs.Word.{with_word}
use Rattle.bf_memory.specs.Row.{slot}
use Rattle.bf_ops.specs.Frame.{cell_of, Keeps, is_negated, judged, is_otherwise, told_of, told}

-- a register's word set is that register set, and a memory's word that word of the memory; all else stays
pub record SetWordsAreKept : Type 0 where
  pub register_set : (r : Regs) (m : Memory) (s : Tape) (x : Reg) (v : ℕ) → v < 2 ^ 24 → Keeps r m s → Keeps (with_reg r x v) m (with_word s (cell_of x) v)
  pub memory_set : (r : Regs) (m : Memory) (s : Tape) (a v : ℕ) → a < 2 ^ 24 → v < 2 ^ 24 → Keeps r m s → Keeps r (stored m a v) (with_word s (slot a) v)

-- a comparison holds where the one that is told of two words, and the one that is told in place, says so, or says not
pub record ComparisonsAreJudged : Type 0 where
  pub made : (c : Cond) (x y : ℕ) → holds c x y ≡ cond (is_negated c) (not (judged c x y)) (judged c x y)
  pub in_place : (c : Cond) (x y : ℕ) → holds c x y ≡ cond (is_otherwise c) (not (told (told_of c) x y)) (told (told_of c) x y)
