-- The commands of the operations. `h` is the cell at which the head is before them.
use Rattle.std.specs.Prelude.{ℕ, ◌+◌, ◌-◌, ◌%◌, ◌^◌, ◌≤◌, Bool, true, false, nat_eq, cond, List, [], ◌++◌, length}
use Rattle.word24.specs.Word.{number_of}
use Rattle.eir_core.specs.declared.ops.Reg.{Reg}
use Rattle.eir_core.specs.declared.ops.Operand.{Operand}
use Rattle.eir_core.specs.declared.ops.Operand.TheVariants.{Reg as register, Imm}
use Rattle.eir_core.specs.declared.ops.Cond.{Cond}
use Rattle.eir_core.specs.declared.ops.Op.{Op}
use Rattle.eir_core.specs.declared.ops.Op.TheVariants.{Mov, Add, Sub, Load, Store, Putc, Getc, Set}
use Rattle.bf_lang.specs.declared.command.Command.{Command}
use Rattle.bf_tape.specs.Code.{clear_code, add_code, move_code, drain_code, read_code, write_code}
use Rattle.bf_word.specs.WordCode.{dup_word_code, clear_word_code, set_code, lift_code, lower_code, once_code}
use Rattle.bf_ops.specs.declared.telling.Told.{Told}
use Rattle.bf_ops.specs.declared.telling.Told.TheVariants.{Same, Smaller, AtMost}
use Rattle.bf_ops.specs.Frame.{cell_of, before, is_otherwise, told_of}
use Rattle.bf_ops.specs.Ask.{flag_of, serve_code}

-- an operand brought to three cells, and where the head is then
abbrev pub bring_code : ℕ → Operand → ℕ → List Command
bring_code h (register q) to = dup_word_code h (cell_of q) to (cell_of q + 3)
bring_code h (Imm w) to = set_code h to (number_of w)

abbrev pub bring_cell : Operand → ℕ → ℕ
bring_cell (register q) to = cell_of q + 3
bring_cell (Imm w) to = to + 2

abbrev pub copy_code : ℕ → ℕ → ℕ → List Command
copy_code h to from = clear_word_code h to ++ dup_word_code (to + 2) from to (from + 3)

abbrev pub mov_code : ℕ → Reg → Operand → List Command
mov_code h x (register y) = cond (nat_eq (cell_of y) (cell_of x)) [] (copy_code h (cell_of x) (cell_of y))
mov_code h x (Imm w) = set_code h (cell_of x) (number_of w)

abbrev pub mov_cell : ℕ → Reg → Operand → ℕ
mov_cell h x (register y) = cond (nat_eq (cell_of y) (cell_of x)) h (cell_of y + 3)
mov_cell h x (Imm w) = cell_of x + 2

abbrev pub sum_code : ℕ → Reg → Operand → List Command
sum_code h x v = bring_code h v (before x) ++ lift_code (bring_cell v (before x)) (cell_of x) (before x)

-- a value taken from a register
abbrev pub take_code : ℕ → Reg → Operand → List Command
take_code h x v = bring_code h v (before x) ++ lower_code (bring_cell v (before x)) (cell_of x) (before x)

abbrev pub difference_code : ℕ → Reg → Operand → List Command
difference_code h x v = take_code h x v ++ clear_code (before x + 2) (cell_of x + 9)

-- what is told of a register where it stands: whether it is a value, is less, or is that or less. The register becomes 0, and what its counter's last cell tells comes to the cell before it
abbrev pub tell_code : ℕ → Told → Reg → Operand → List Command
tell_code h Same x v = difference_code h x v ++ once_code (cell_of x + 9) (cell_of x) ++ clear_word_code (cell_of x) (cell_of x) ++ move_code (cell_of x + 2) (cell_of x + 9) (cell_of x - 1)
tell_code h Smaller x v = take_code h x v ++ clear_word_code (before x + 2) (cell_of x) ++ move_code (cell_of x + 2) (cell_of x + 9) (cell_of x - 1)
tell_code h AtMost x v =
    take_code h x v ++ move_code (before x + 2) (cell_of x + 9) (cell_of x - 1) ++ once_code (cell_of x + 9) (cell_of x) ++ clear_word_code (cell_of x) (cell_of x) ++ move_code (cell_of x + 2) (cell_of x + 9) (cell_of x - 1)

abbrev pub answer_code : ℕ → Bool → Reg → List Command
answer_code h true x = add_code h (cell_of x) 1 ++ drain_code (cell_of x) (cell_of x - 1) (cell_of x)
answer_code h false x = move_code h (cell_of x - 1) (cell_of x)

abbrev pub set_if_code : ℕ → Cond → Reg → Operand → List Command
set_if_code h test x v = tell_code h (told_of test) x v ++ answer_code (cell_of x + 9) (is_otherwise test) x

-- a load and a store ask: the address in the cells 107 to 109, a store's word in 87 to 89, and what says so
abbrev pub ask_load_code : ℕ → Reg → Operand → List Command
ask_load_code h x v = bring_code h v 107 ++ add_code (bring_cell v 107) (flag_of x) 1 ++ add_code (flag_of x) 46 1

abbrev pub ask_store_code : ℕ → Reg → Operand → List Command
ask_store_code h x v = bring_code h v 107 ++ dup_word_code (bring_cell v 107) (cell_of x) 87 (cell_of x + 3) ++ add_code (cell_of x + 3) 47 1

abbrev pub getc_code : ℕ → Reg → List Command
getc_code h x = clear_word_code h (cell_of x) ++ read_code (cell_of x + 2) (cell_of x)

abbrev pub put_constant_code : ℕ → ℕ → List Command
put_constant_code h n = add_code h 110 (n % 256) ++ write_code 110 110 ++ clear_code 110 110

abbrev pub putc_code : ℕ → Operand → List Command
putc_code h (register q) = write_code h (cell_of q)
putc_code h (Imm w) = put_constant_code h (number_of w)

abbrev pub putc_cell : Operand → ℕ
putc_cell (register q) = cell_of q
putc_cell (Imm w) = 110

-- the commands of an operation, and where the head is then
abbrev pub operation_code : ℕ → Op → List Command
operation_code h (Mov x v) = mov_code h x v
operation_code h (Add x v) = sum_code h x v
operation_code h (Sub x v) = difference_code h x v
operation_code h (Load x v) = ask_load_code h x v
operation_code h (Store x v) = ask_store_code h x v
operation_code h (Putc v) = putc_code h v
operation_code h (Getc x) = getc_code h x
operation_code h (Set test x v) = set_if_code h test x v
operation_code h _ = []

abbrev pub operation_cell : ℕ → Op → ℕ
operation_cell h (Mov x v) = mov_cell h x v
operation_cell h (Add x v) = before x + 2
operation_cell h (Sub x v) = cell_of x + 9
operation_cell h (Load x v) = 46
operation_cell h (Store x v) = 47
operation_cell h (Putc v) = putc_cell v
operation_cell h (Getc x) = cell_of x
operation_cell h (Set test x v) = cell_of x - 1
operation_cell h _ = h

-- an operation's commands from cell 0 on are few enough for a program of 2^14 of them; a load has at most 750, a sum, a difference, a comparison and a store at most 1,000, and what serves them all 2^14
pub record OperationsAreShort : Type 0 where
  pub any : (op : Op) → length (operation_code 0 op) ≤ 2 ^ 14
  pub sums : (x : Reg) (v : Operand) → length (operation_code 0 (Add x v)) ≤ 1000
  pub differences : (x : Reg) (v : Operand) → length (operation_code 0 (Sub x v)) ≤ 1000
  pub comparisons : (test : Cond) (x : Reg) (v : Operand) → length (operation_code 0 (Set test x v)) ≤ 1000
  pub loads : (x : Reg) (v : Operand) → length (operation_code 0 (Load x v)) ≤ 750
  pub stores : (x : Reg) (v : Operand) → length (operation_code 0 (Store x v)) ≤ 1000
  pub tail : length (serve_code 0) ≤ 2 ^ 14
