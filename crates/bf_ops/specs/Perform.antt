-- Operations of EIR, performed on the frame.
use Rattle.std.specs.Prelude.{◌≡◌, ℕ, ◌+◌, ◌*◌, ◌^◌, ◌<◌, ◌≤◌, Bool, true, false, cond, List, ◌++◌, length, Some}
use Rattle.mach_core.specs.Rule.{IsInput, input_at}
use Rattle.word24.specs.Word.{sum_word, difference_word}
use Rattle.eir_core.specs.declared.ops.Reg.{Reg}
use Rattle.eir_core.specs.declared.ops.Op.{Op}
use Rattle.eir_core.specs.declared.ops.Op.TheVariants.{Mov, Add, Sub, Load, Store, Getc, Exit, Set, Jump, JumpIf}
use Rattle.eir_core.specs.Eir.{Eir}
use Rattle.eir_core.specs.Memory.{Memory, word_at, with_word as stored}
use Rattle.eir_core.specs.Step.{Regs, Config, reg_of, with_reg, value_of, holds, after, onward, takes, bytes_of}
use Rattle.bf_lang.specs.declared.command.Command.{Command}
use Rattle.bf_lang.specs.Balance.{IsBalanced}
use Rattle.bf_tape.specs.Tape.{Tape, get}
use Rattle.bf_tape.specs.Does.{Does}
use Rattle.bf_tape.specs.Piece.{Piece}
use Rattle.bf_memory.specs.Row.{Holds, steps_to}
use Rattle.bf_ops.specs.Frame.{IsFrame, Keeps}
use Rattle.bf_ops.specs.Ask.{Ask, asking, served, IsOfWords}
use Rattle.bf_ops.specs.Ask.Ask.{Nothing, Loading, Storing}

-- the registers and the memory after an operation, given the byte that it takes
abbrev pub regs_after : Op → Regs → Memory → ℕ → Regs
regs_after (Mov x v) r m byte = with_reg r x (value_of r v)
regs_after (Add x v) r m byte = with_reg r x (sum_word (reg_of r x) (value_of r v))
regs_after (Sub x v) r m byte = with_reg r x (difference_word (reg_of r x) (value_of r v))
regs_after (Load x v) r m byte = with_reg r x (word_at m (value_of r v))
regs_after (Getc x) r m byte = with_reg r x byte
regs_after (Set test x v) r m byte = with_reg r x (cond (holds test (reg_of r x) (value_of r v)) 1 0)
regs_after _ r m byte = r

abbrev pub memory_after : Op → Regs → Memory → Memory
memory_after (Store x v) r m = stored m (value_of r v) (reg_of r x)
memory_after _ r m = m

-- what it asks of the memory
abbrev pub asked_by : Op → Regs → Ask
asked_by (Load x v) r = Loading x (value_of r v)
asked_by (Store x v) r = Storing (value_of r v) (reg_of r x)
asked_by _ r = Nothing

-- whether it asks anything
abbrev pub asks : Op → Bool
asks (Load x v) = true
asks (Store x v) = true
asks _ = false

-- the commands that it takes at most: in all, and before what it asks is served
abbrev pub steps_of : Op → Regs → ℕ
steps_of (Load x v) r = steps_to (value_of r v) + 2 ^ 14
steps_of (Store x v) r = steps_to (value_of r v) + 2 ^ 14
steps_of _ r = 2 ^ 24

abbrev pub steps_before : Op → ℕ
steps_before op = cond (asks op) (3 * 2 ^ 20 + 2 ^ 12) (2 ^ 24)

-- the registers and the memory hold words
pub record AreWords (r : Regs) (m : Memory) : Type 0 where
  pub regs : (x : Reg) → reg_of r x < 2 ^ 24
  pub memory : (a : ℕ) → word_at m a < 2 ^ 24

-- commands come to a tape on which something is asked of a memory, and which has these registers and this memory once that is served, with these bytes taken and written, and with the cells below 46 as they were
pub record Comes (input : List ℕ) (code : List Command) (h : ℕ) (s : Tape) (h' : ℕ) (ask : Ask) (held : Memory) (r : Regs) (m : Memory) (taken : ℕ) (output : List ℕ) (most : ℕ) : Type 0 where
  pub tape : Tape
  pub does : Does input code h s h' (asking ask tape) most
  pub frame : IsFrame tape
  pub holds : Holds held tape
  pub words : IsOfWords ask
  pub keeps : Keeps r m (served ask held tape)
  pub base : tape.base ≡ s.base
  pub same : (c : ℕ) → c < 46 → get tape c ≡ get s c
  pub taken_is : tape.taken ≡ taken
  pub output_is : tape.output ≡ output

-- what is added performs an operation, up to what it asks of the memory
pub record Performs (old new : Piece) (op : Op) : Type 0 where
  pub added : List Command
  pub commands : new.commands ≡ old.commands ++ added
  pub short : length added ≤ 2 ^ 18
  pub balanced : IsBalanced added
  pub does : (input : List ℕ) (s : Tape) (r : Regs) (m : Memory) → IsInput input → AreWords r m → Keeps r m s
      → Comes input added old.cell s new.cell (asked_by op r) m (regs_after op r m (input_at input s.taken)) (memory_after op r m) (cond (takes (Some op)) (s.taken + 1) s.taken) (s.output ++ bytes_of r (Some op)) (steps_before op)

-- an operation that goes on to the next one
abbrev pub goes_on : Op → Bool
goes_on Exit = false
goes_on (Jump v) = false
goes_on (JumpIf test v x w) = false
goes_on _ = true

-- by EIR's rule such an operation leaves these registers and this memory
abbrev pub OperationsAreEirs : Type 0
OperationsAreEirs = (p : Eir) (c : Config) (op : Op) (byte : ℕ) → goes_on op ≡ true → after p c (Some op) byte ≡ onward p c (regs_after op c.regs c.memory byte) (memory_after op c.regs c.memory)
