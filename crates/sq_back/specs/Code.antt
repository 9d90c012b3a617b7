-- The SUBLEQ program for an EIR program: what stands at its start, a row for each block, the operations, and the data words.
use Rattle.std.specs.Prelude.{ℕ, ◌+◌, ◌-◌, ◌*◌, ◌^◌, cond, nat_lt, List, [], ◌∷◌, ◌++◌, length, map, ℤ, pos, negsuc}
use Rattle.word24.specs.Word.{number_of}
use Rattle.eir_core.specs.declared.ops.Reg.{Reg}
use Rattle.eir_core.specs.declared.ops.Reg.TheVariants.{A, B, C, D, SP, BP}
use Rattle.eir_core.specs.declared.ops.Operand.{Operand}
use Rattle.eir_core.specs.declared.ops.Operand.TheVariants.{Reg as register, Imm}
use Rattle.eir_core.specs.declared.ops.Cond.{Cond}
use Rattle.eir_core.specs.declared.ops.Cond.TheVariants.{Eq, Ne, Lt, Gt, Le, Ge}
use Rattle.eir_core.specs.declared.ops.Op.{Op}
use Rattle.eir_core.specs.declared.ops.Op.TheVariants.{Mov, Add, Sub, Load, Store, Putc, Getc, Exit, Set, Jump, JumpIf}
use Rattle.eir_core.specs.Eir.{Eir}
use Rattle.sq_back.specs.declared.line.Line.{Line}

-- the cell of a register's word
abbrev pub register_cell : Reg → ℕ
register_cell A = 6
register_cell B = 7
register_cell C = 8
register_cell D = 9
register_cell SP = 10
register_cell BP = 11

-- a cell that is 0 between two operations
abbrev pub zero_cell : ℕ
zero_cell = 3

-- a cell for the word in hand: an address, a difference, a block's number
abbrev pub work_cell : ℕ
work_cell = 4

-- a cell for a second word
abbrev pub other_cell : ℕ
other_cell = 5

-- cells of numbers that stay: 1, -1, 2^24 - 1 and its negative
abbrev pub one_cell : ℕ
one_cell = 12

abbrev pub minus_one_cell : ℕ
minus_one_cell = 13

abbrev pub most_cell : ℕ
most_cell = 14

abbrev pub minus_most_cell : ℕ
minus_most_cell = 15

-- the cell of the address where memory begins
abbrev pub memory_cell : ℕ
memory_cell = 16

-- the cell of the number of blocks
abbrev pub count_cell : ℕ
count_cell = 17

-- the cell of the address where the rows begin
abbrev pub rows_cell : ℕ
rows_cell = 18

-- where the lines begin that fetch a word of memory, and the two cells in them that are written first: the address of the word, and where to go on
abbrev pub load_start : ℕ
load_start = 21

abbrev pub load_from : ℕ
load_from = 39

abbrev pub load_next : ℕ
load_next = 47

-- where the lines begin that change a word of memory, and the three cells in them that are written first: the address of the word, twice, and where to go on
abbrev pub store_start : ℕ
store_start = 48

abbrev pub store_from : ℕ
store_from = 72

abbrev pub store_to : ℕ
store_to = 85

abbrev pub store_next : ℕ
store_next = 89

-- where the lines begin that go to the block of a number, and the cell in them that is written first: the address of its row
abbrev pub goto_start : ℕ
goto_start = 90

abbrev pub goto_next : ℕ
goto_next = 131

-- where the rows begin, one for each block
abbrev pub rows_start : ℕ
rows_start = 132

-- the address of a block's row
abbrev pub row_place : ℕ → ℕ
row_place k = rows_start + 3 * k

-- no address: a run that comes to it has ended
abbrev pub nowhere : ℤ
nowhere = negsuc 0

-- where to go for the block of this number, of so many
abbrev pub goal : ℕ → ℕ → ℤ
goal n k = cond (nat_lt k n) (pos (row_place k)) nowhere

-- three numbers
abbrev pub numbers : ℤ → ℤ → ℤ → Line
numbers x y z = record { from = x; to = y; next = z }

-- subtracts the first cell from the second, and goes to a place if the difference is at most 0, else on
abbrev pub subtract : ℕ → ℕ → ℤ → Line
subtract a b place = numbers (pos a) (pos b) place

-- goes to a place
abbrev pub go : ℤ → Line
go place = subtract zero_cell zero_cell place

-- subtracts cells from cells, in turn: the lines stand from an address on
abbrev pub straight : ℕ → List (ℕ × ℕ) → List Line
straight at [] = []
straight at (pair ∷ pairs) = subtract pair.0 pair.1 (pos (at + 3)) ∷ straight (at + 3) pairs

-- the second cell becomes what the first is, and then goes to a place
abbrev pub move_lines : ℕ → ℕ → ℕ → ℤ → List Line
move_lines at a b place = straight at ((a, zero_cell) ∷ (b, b) ∷ (zero_cell, b) ∷ []) ++ go place ∷ []

-- the cell of an operand's word; the number of an operation stands where the operation begins
abbrev pub value_cell : ℕ → Operand → ℕ
value_cell at (register r) = register_cell r
value_cell at (Imm w) = at

-- the number of an operand
abbrev pub number_in : Operand → ℤ
number_in (register r) = pos 0
number_in (Imm w) = pos (number_of w)

-- where to go from a comparison: where the difference of the words is negative, where it is 0, and where it is positive
pub record Branches : Type 0 where
  pub negative : ℤ
  pub zero : ℤ
  pub positive : ℤ

-- to the one place where the comparison holds, to the other where it doesn't
abbrev pub branches_of : Cond → ℤ → ℤ → Branches
branches_of Eq there otherwise = record { negative = otherwise; zero = there; positive = otherwise }
branches_of Ne there otherwise = record { negative = there; zero = otherwise; positive = there }
branches_of Lt there otherwise = record { negative = there; zero = otherwise; positive = otherwise }
branches_of Gt there otherwise = record { negative = otherwise; zero = otherwise; positive = there }
branches_of Le there otherwise = record { negative = there; zero = there; positive = otherwise }
branches_of Ge there otherwise = record { negative = otherwise; zero = there; positive = there }

-- the difference of two cells' words in the work cell
abbrev pub difference_lines : ℕ → ℕ → ℕ → List Line
difference_lines at a b = straight at ((a, zero_cell) ∷ (work_cell, work_cell) ∷ (zero_cell, work_cell) ∷ (zero_cell, zero_cell) ∷ (b, work_cell) ∷ [])

-- goes by the sign of the work cell
abbrev pub sign_lines : ℕ → Branches → List Line
sign_lines at branches =
    subtract zero_cell work_cell (pos (at + 6)) ∷ go branches.positive ∷ subtract minus_one_cell work_cell branches.negative ∷ go branches.zero ∷ []

-- compares two cells' words
abbrev pub compare_lines : ℕ → ℕ → ℕ → Branches → List Line
compare_lines at a b branches = difference_lines at a b ++ sign_lines (at + 15) branches

-- goes to the block of the number in a register
abbrev pub goto_lines : ℕ → Reg → List Line
goto_lines at r = move_lines at (register_cell r) work_cell (pos goto_start)

-- a sum in a register's cell is taken modulo 2^24
abbrev pub wrap_sum_lines : ℕ → ℕ → ℤ → List Line
wrap_sum_lines at cell place =
    subtract most_cell cell (pos (at + 9)) ∷ subtract one_cell cell (pos (at + 6)) ∷ go place ∷ subtract minus_most_cell cell (pos (at + 12)) ∷ go place ∷ []

-- a difference in a register's cell is taken modulo 2^24
abbrev pub wrap_difference_lines : ℕ → ℕ → ℤ → List Line
wrap_difference_lines at cell place =
    subtract minus_one_cell cell (pos (at + 9)) ∷ subtract one_cell cell (pos (at + 6)) ∷ go place ∷ subtract minus_most_cell cell (pos (at + 12)) ∷ go place ∷ []

-- what an operation does: its lines from an address on, in a program of so many blocks; its numbers stand at `own`, and it goes on to a place
abbrev pub act_lines : ℕ → ℕ → ℕ → ℤ → Op → List Line
act_lines n own at place (Mov r v) = move_lines at (value_cell own v) (register_cell r) place
act_lines n own at place (Add r v) =
    straight at ((value_cell own v, zero_cell) ∷ (zero_cell, register_cell r) ∷ (zero_cell, zero_cell) ∷ []) ++ wrap_sum_lines (at + 9) (register_cell r) place
act_lines n own at place (Sub r v) = straight at ((value_cell own v, register_cell r) ∷ []) ++ wrap_difference_lines (at + 3) (register_cell r) place
act_lines n own at place (Load r v) =
    move_lines at (value_cell own v) work_cell (pos (at + 12))
    ++ (move_lines (at + 12) (own + 1) load_next (pos load_start)
    ++ move_lines (at + 24) work_cell (register_cell r) place)
act_lines n own at place (Store r v) =
    move_lines at (value_cell own v) work_cell (pos (at + 12))
    ++ (move_lines (at + 12) (register_cell r) other_cell (pos (at + 24))
    ++ move_lines (at + 24) (own + 1) store_next (pos store_start))
act_lines n own at place (Putc v) = numbers (pos (value_cell own v)) (negsuc 0) (pos (at + 3)) ∷ go place ∷ []
act_lines n own at place (Getc r) = numbers (negsuc 0) (pos (register_cell r)) (pos (at + 3)) ∷ go place ∷ []
act_lines n own at place Exit = go nowhere ∷ []
act_lines n own at place (Set test r v) =
    compare_lines at (register_cell r) (value_cell own v) (branches_of test (pos (at + 30)) (pos (at + 27)))
    ++ (subtract (register_cell r) (register_cell r) place
    ∷ subtract (register_cell r) (register_cell r) (pos (at + 33)) ∷ subtract minus_one_cell (register_cell r) (pos (at + 36)) ∷ go place ∷ [])
act_lines n own at place (Jump (register r)) = goto_lines at r
act_lines n own at place (Jump (Imm w)) = go (goal n (number_of w)) ∷ []
act_lines n own at place (JumpIf test (register t) r v) =
    compare_lines at (register_cell r) (value_cell own v) (branches_of test (pos (at + 27)) place) ++ goto_lines (at + 27) t
act_lines n own at place (JumpIf test (Imm w) r v) =
    compare_lines at (register_cell r) (value_cell own v) (branches_of test (goal n (number_of w)) place)

-- the numbers that an operation uses: that of its operand, and where to go on from memory
abbrev pub own_numbers : ℕ → ℤ → Op → Line
own_numbers at place (Mov r v) = numbers (number_in v) (pos 0) (pos 0)
own_numbers at place (Add r v) = numbers (number_in v) (pos 0) (pos 0)
own_numbers at place (Sub r v) = numbers (number_in v) (pos 0) (pos 0)
own_numbers at place (Load r v) = numbers (number_in v) (pos (at + 27)) (pos 0)
own_numbers at place (Store r v) = numbers (number_in v) place (pos 0)
own_numbers at place (Putc v) = numbers (number_in v) (pos 0) (pos 0)
own_numbers at place (Set test r v) = numbers (number_in v) (pos 0) (pos 0)
own_numbers at place (JumpIf test target r v) = numbers (number_in v) (pos 0) (pos 0)
own_numbers at place _ = numbers (pos 0) (pos 0) (pos 0)

-- the lines of an operation, from an address on: its numbers, and then what it does
abbrev pub op_lines : ℕ → ℕ → ℤ → Op → List Line
op_lines n at place op = own_numbers at place op ∷ act_lines n at (at + 3) place op

-- how many cells an operation has
abbrev pub op_cells : Op → ℕ
op_cells op = 3 * length (op_lines 0 0 (pos 0) op)

-- how many cells the operations of a block have
abbrev pub ops_cells : List Op → ℕ
ops_cells [] = 0
ops_cells (op ∷ ops) = op_cells op + ops_cells ops

-- where to go on from the last of a block's operations: these come next, from an address on, and then the block of a number
abbrev pub place_after : ℕ → ℕ → ℕ → List Op → ℤ
place_after n k at [] = goal n k
place_after n k at (op ∷ ops) = pos (at + 3)

-- the lines of operations, from an address on; then comes the block of a number, of so many
abbrev pub ops_lines : ℕ → ℕ → ℕ → List Op → List Line
ops_lines n k at [] = []
ops_lines n k at (op ∷ ops) = op_lines n at (place_after n k (at + op_cells op) ops) op ++ ops_lines n k (at + op_cells op) ops

-- the lines of the blocks from a number on, of so many, from an address on
abbrev pub blocks_lines : ℕ → ℕ → ℕ → List (List Op) → List Line
blocks_lines n k at [] = []
blocks_lines n k at (ops ∷ blocks) = ops_lines n (k + 1) at ops ++ blocks_lines n (k + 1) (at + ops_cells ops) blocks

-- how many cells the blocks have
abbrev pub blocks_cells : List (List Op) → ℕ
blocks_cells [] = 0
blocks_cells (ops ∷ blocks) = ops_cells ops + blocks_cells blocks

-- the rows of blocks whose lines stand from an address on: each goes to what the block's first operation does
abbrev pub rows_lines : ℕ → List (List Op) → List Line
rows_lines at [] = []
rows_lines at (ops ∷ blocks) = go (pos (at + 3)) ∷ rows_lines (at + ops_cells ops) blocks

-- where the blocks' lines begin
abbrev pub blocks_start : Eir → ℕ
blocks_start p = rows_start + 3 * length p.blocks

-- where memory begins: right behind all lines
abbrev pub memory_start : Eir → ℕ
memory_start p = blocks_start p + blocks_cells p.blocks

-- the word at the address in the work cell comes into the work cell
abbrev pub load_lines : List Line
load_lines =
    straight load_start ((load_from, load_from) ∷ (memory_cell, zero_cell) ∷ (work_cell, zero_cell) ∷ (zero_cell, load_from) ∷ (zero_cell, zero_cell) ∷ (work_cell, work_cell)
    ∷ (0, zero_cell) ∷ (zero_cell, work_cell) ∷ [])
    ++ go (pos 0) ∷ []

-- the word at the address in the work cell becomes that in the other cell: what it was, less its difference with that one
abbrev pub store_lines : List Line
store_lines =
    straight store_start ((store_from, store_from) ∷ (store_to, store_to) ∷ (memory_cell, zero_cell) ∷ (work_cell, zero_cell) ∷ (zero_cell, store_from) ∷ (zero_cell, store_to)
    ∷ (zero_cell, zero_cell) ∷ (work_cell, work_cell) ∷ (0, zero_cell) ∷ (zero_cell, work_cell) ∷ (zero_cell, zero_cell) ∷ (other_cell, work_cell) ∷ (work_cell, 0) ∷ [])
    ++ go (pos 0) ∷ []

-- goes to the block of the number in the work cell, if there is one, else ends
abbrev pub find_lines : List Line
find_lines =
    straight goto_start ((other_cell, other_cell) ∷ (work_cell, zero_cell) ∷ (zero_cell, other_cell) ∷ (zero_cell, zero_cell) ∷ (count_cell, other_cell) ∷ [])
    ++ (subtract minus_one_cell other_cell (pos (goto_start + 21)) ∷ go nowhere
    ∷ (straight (goto_start + 21) ((goto_next, goto_next) ∷ (rows_cell, zero_cell) ∷ (work_cell, zero_cell) ∷ (work_cell, zero_cell) ∷ (work_cell, zero_cell) ∷ (zero_cell, goto_next) ∷ [])
    ++ go (pos 0) ∷ []))

-- what stands at the start: the way to the first block, the cells, and the lines for memory and for blocks that a register names
abbrev pub first_lines : Eir → List Line
first_lines p =
    let zeros = numbers (pos 0) (pos 0) (pos 0) in
    go (goal (length p.blocks) p.start) ∷ zeros ∷ zeros ∷ zeros
    ∷ numbers (pos 1) (negsuc 0) (pos (2 ^ 24 - 1)) ∷ numbers (negsuc (2 ^ 24 - 2)) (pos (memory_start p)) (pos (length p.blocks)) ∷ numbers (pos rows_start) (pos 0) (pos 0)
    ∷ (load_lines ++ (store_lines ++ find_lines))

-- all lines
abbrev pub lines_of : Eir → List Line
lines_of p =
    first_lines p ++ (rows_lines (blocks_start p) p.blocks ++ blocks_lines (length p.blocks) 0 (blocks_start p) p.blocks)

-- the cells of lines
abbrev pub cells_of : List Line → List ℤ
cells_of [] = []
cells_of (line ∷ lines) = line.from ∷ line.to ∷ line.next ∷ cells_of lines

-- the cells of the program: its lines, and then the data words, where memory begins
abbrev pub image_of : Eir → List ℤ
image_of p = cells_of (lines_of p) ++ map (λ word. pos (number_of word)) p.words
