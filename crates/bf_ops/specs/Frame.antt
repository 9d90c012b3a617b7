-- Registers, operands and operations on the cells of the frame.
use Rattle.std.specs.Prelude.{◌≡◌, ℕ, ◌+◌, ◌-◌, ◌*◌, ◌%◌, ◌^◌, ◌<◌, ◌≤◌, Bool, true, false, cond, nat_eq, nat_lt, nat_le, List, [], ◌∷◌, ◌++◌}
use Rattle.mach_core.specs.Rule.{input_at}
use Rattle.word24.specs.Word.{number_of}
use Rattle.eir_core.specs.declared.ops.Reg.{Reg}
use Rattle.eir_core.specs.declared.ops.Reg.TheVariants.{A, B, C, D, SP, BP}
use Rattle.eir_core.specs.declared.ops.Operand.{Operand}
use Rattle.eir_core.specs.declared.ops.Operand.TheVariants.{Reg as register, Imm}
use Rattle.eir_core.specs.declared.ops.Cond.{Cond}
use Rattle.eir_core.specs.declared.ops.Cond.TheVariants.{Eq, Ne, Lt, Gt, Le, Ge}
use Rattle.bf_ops.specs.declared.telling.Told.{Told}
use Rattle.bf_ops.specs.declared.telling.Told.TheVariants.{Same, Smaller, AtMost}
use Rattle.eir_core.specs.Memory.{Memory}
use Rattle.eir_core.specs.Step.{Regs, reg_of}
use Rattle.bf_tape.specs.Tape.{Tape, get, put}
use Rattle.bf_word.specs.Word.{word_in, with_word, IsClear, IsCounter, AreDistinct, IsOutside}
use Rattle.bf_memory.specs.Row.{Holds}

-- the first cell of a register's counter
abbrev pub cell_of : Reg → ℕ
cell_of A = 100
cell_of B = 90
cell_of C = 80
cell_of D = 70
cell_of SP = 60
cell_of BP = 50

-- the word of an operand on a tape
abbrev pub value_in : Tape → Operand → ℕ
value_in s (register q) = word_in s (cell_of q)
value_in s (Imm w) = number_of w

-- the commands that bring it to other cells at most
abbrev pub bring_most : Operand → ℕ
bring_most (register q) = 3 * 2 ^ 20
bring_most (Imm w) = 2 ^ 13

-- the next byte of the input as a word
abbrev pub read_into : List ℕ → Tape → ℕ → Tape
read_into input s w = let t = with_word s w (input_at input s.taken) in record { base = t.base; cells = t.cells; taken = s.taken + 1; output = s.output }

-- a byte written
abbrev pub written : Tape → ℕ → Tape
written s byte = record { base = s.base; cells = s.cells; taken = s.taken; output = s.output ++ byte ∷ [] }

-- the cells that pieces use are 0 between them: those behind the registers, those for what is asked of the memory and for an answer, and those to work in
pub record IsFrame (s : Tape) : Type 0 where
  pub counters : (x : Reg) → IsCounter (cell_of x) s
  pub own : (c : ℕ) → 46 ≤ c → c < 50 → get s c ≡ 0
  pub clear : IsClear s

-- the three cells to which a word is brought are 0, and so are those behind the registers
pub record IsVacant (w : ℕ) (s : Tape) : Type 0 where
  pub counters : (x : Reg) → IsCounter (cell_of x) s
  pub word : word_in s w ≡ 0

-- three cells that are no register's, and no cell to spare behind one's word
abbrev pub IsAside : ℕ → Type 0
IsAside to = (q : Reg) → AreDistinct (cell_of q) to × IsOutside (cell_of q + 3) to

-- the three cells before a register's, which are 0 between operations
abbrev pub before : Reg → ℕ
before x = cell_of x - 3

-- a register less by a number, and the last cell of its counter, which tells whether it was less than that
abbrev pub lowered : Tape → Reg → ℕ → Tape
lowered s x n = put (with_word s (cell_of x) ((word_in s (cell_of x) + (2 ^ 24 - n)) % 2 ^ 24)) (cell_of x + 9) (cond (nat_lt (word_in s (cell_of x)) n) 1 0)

-- a register that is 0, and the cell before it, which tells whether something holds
abbrev pub answered : Tape → Reg → Bool → Tape
answered s x b = with_word (put s (cell_of x - 1) (cond b 1 0)) (cell_of x) 0

-- the tape has the registers and the memory of a program
pub record Keeps (r : Regs) (m : Memory) (s : Tape) : Type 0 where
  pub frame : IsFrame s
  pub regs : (x : Reg) → word_in s (cell_of x) ≡ reg_of r x
  pub memory : Holds m s

-- the comparisons that are negations of those that tell whether two words are the same, or one is less, and what is told of two words
abbrev pub is_negated : Cond → Bool
is_negated Ne = true
is_negated Ge = true
is_negated Le = true
is_negated _ = false

abbrev pub judged : Cond → ℕ → ℕ → Bool
judged Eq x y = nat_eq x y
judged Ne x y = nat_eq x y
judged Lt x y = nat_lt x y
judged Ge x y = nat_lt x y
judged Gt x y = nat_lt y x
judged Le x y = nat_lt y x

-- the comparison that is told where a register stands, of which the other three are the negations
abbrev pub is_otherwise : Cond → Bool
is_otherwise Ne = true
is_otherwise Ge = true
is_otherwise Gt = true
is_otherwise _ = false

abbrev pub told_of : Cond → Told
told_of Eq = Same
told_of Ne = Same
told_of Lt = Smaller
told_of Ge = Smaller
told_of Le = AtMost
told_of Gt = AtMost

abbrev pub told : Told → ℕ → ℕ → Bool
told Same x y = nat_eq x y
told Smaller x y = nat_lt x y
told AtMost x y = nat_le x y
