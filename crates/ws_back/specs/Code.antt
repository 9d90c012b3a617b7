-- The Whitespace program for an EIR program.
-- It serves the proofs alone: what an emission promises names none of it.
use Rattle.std.specs.Prelude.{ℕ, zero, suc, ◌+◌, ◌-◌, ◌*◌, ◌/◌, ◌%◌, ◌^◌, Bool, cond, nat_eq, nat_lt, List, [], ◌∷◌, ◌++◌, length, ℤ, pos, negsuc}
use Rattle.word24.specs.declared.word.Word.{Word}
use Rattle.word24.specs.Word.{number_of}
use Rattle.eir_core.specs.declared.ops.Reg.{Reg}
use Rattle.eir_core.specs.declared.ops.Reg.TheVariants.{A, B, C, D, SP, BP}
use Rattle.eir_core.specs.declared.ops.Operand.{Operand}
use Rattle.eir_core.specs.declared.ops.Operand.TheVariants.{Reg as register, Imm}
use Rattle.eir_core.specs.declared.ops.Cond.{Cond}
use Rattle.eir_core.specs.declared.ops.Cond.TheVariants.{Eq, Ne, Lt, Gt, Le, Ge}
use Rattle.eir_core.specs.declared.ops.Op.{Op}
use Rattle.eir_core.specs.declared.ops.Op.TheVariants.{Mov, Add, Sub, Load, Store, Putc, Getc, Exit, Set, Jump, JumpIf}
use Rattle.eir_core.specs.Eir.{Eir}
use Rattle.sim_trait.specs.Digits.{digit_count}
use Rattle.ws_lang.specs.Instruction.{Label, Instruction}
use Rattle.ws_lang.specs.Instruction as ws

-- the binary digits of a number below 2 ^ width: the highest first, with no zeros in front
unfoldable pub digits : ℕ → ℕ → List Bool
digits zero n = []
digits (suc width) n = cond (nat_eq n 0) [] (digits width (n / 2) ++ nat_eq (n % 2) 1 ∷ [])

-- the label of this number
abbrev pub label : ℕ → Label
label n = digits 25 n

-- marks the end of the code
abbrev pub end_label : Label
end_label = label 0

-- marks where a block is looked up by its number
abbrev pub dispatch_label : Label
dispatch_label = label 1

-- marks where the blocks below this number are looked up
abbrev pub branch_label : ℕ → Label
branch_label middle = label (2 * middle + 1)

-- marks a block
abbrev pub block_label : ℕ → Label
block_label k = label (2 * k + 2)

-- marks the block of this number, of so many, or else the end
abbrev pub goal_label : ℕ → ℕ → Label
goal_label n k = cond (nat_lt k n) (block_label k) end_label

-- the address of a register's word; those of the memory's words are the same as in the program
abbrev pub address : Reg → ℤ
address A = negsuc 0
address B = negsuc 1
address C = negsuc 2
address D = negsuc 3
address SP = negsuc 4
address BP = negsuc 5

-- the address of the number of the block that is looked up
abbrev pub wanted : ℤ
wanted = negsuc 6

-- 2^24 on top of the stack
abbrev pub push_modulus : Instruction
push_modulus = ws.Push (pos (2 ^ 24))

-- pushes the word of an operand
abbrev pub value_code : Operand → List Instruction
value_code (register r) = ws.Push (address r) ∷ ws.Retrieve ∷ []
value_code (Imm w) = ws.Push (pos (number_of w)) ∷ []

-- pushes 1 if the first word plus a number is at least 2^24 above the second, else 0
abbrev pub reaches_code : ℕ → Operand → Operand → List Instruction
reaches_code n x y = value_code x ++ ws.Push (pos n) ∷ ws.Add ∷ (value_code y ++ ws.Subtract ∷ push_modulus ∷ ws.Divide ∷ [])

-- pushes 1 if the first word is no less than the second, else 0
abbrev pub at_least_code : Operand → Operand → List Instruction
at_least_code x y = reaches_code (2 ^ 24) x y

-- pushes 1 if the first word is greater than the second, else 0
abbrev pub above_code : Operand → Operand → List Instruction
above_code x y = reaches_code (2 ^ 24 - 1) x y

-- pushes 1 if the comparison holds of two words, else 0
abbrev pub flag_code : Cond → Operand → Operand → List Instruction
flag_code Eq x y = at_least_code x y ++ (at_least_code y x ++ ws.Multiply ∷ [])
flag_code Ne x y = above_code x y ++ (above_code y x ++ ws.Add ∷ [])
flag_code Lt x y = above_code y x
flag_code Gt x y = above_code x y
flag_code Le x y = at_least_code y x
flag_code Ge x y = at_least_code x y

-- the comparison that holds where this one doesn't
abbrev pub negated : Cond → Cond
negated Eq = Ne
negated Ne = Eq
negated Lt = Ge
negated Gt = Le
negated Le = Gt
negated Ge = Lt

-- stores the number of the block that is wanted, where a register has it
abbrev pub target_code : Operand → List Instruction
target_code (register r) = ws.Push wanted ∷ (value_code (register r) ++ ws.Store ∷ [])
target_code (Imm w) = []

-- where to go then
abbrev pub target_label : ℕ → Operand → Label
target_label n (register r) = dispatch_label
target_label n (Imm w) = goal_label n (number_of w)

-- the code of an operation, in a program of so many blocks
abbrev pub op_code : ℕ → Op → List Instruction
op_code n (Mov r v) = ws.Push (address r) ∷ (value_code v ++ ws.Store ∷ [])
op_code n (Add r v) = ws.Push (address r) ∷ (value_code (register r) ++ (value_code v ++ ws.Add ∷ push_modulus ∷ ws.Modulo ∷ ws.Store ∷ []))
op_code n (Sub r v) = ws.Push (address r) ∷ (value_code (register r) ++ (value_code v ++ ws.Subtract ∷ push_modulus ∷ ws.Modulo ∷ ws.Store ∷ []))
op_code n (Load r v) = ws.Push (address r) ∷ (value_code v ++ ws.Retrieve ∷ ws.Store ∷ [])
op_code n (Store r v) = value_code v ++ (value_code (register r) ++ ws.Store ∷ [])
op_code n (Putc v) = value_code v ++ ws.WriteCharacter ∷ []
op_code n (Getc r) = ws.Push (address r) ∷ ws.ReadCharacter ∷ []
op_code n Exit = ws.Jump end_label ∷ []
op_code n (Set test r v) = ws.Push (address r) ∷ (flag_code test (register r) v ++ ws.Store ∷ [])
op_code n (Jump target) = target_code target ++ ws.Jump (target_label n target) ∷ []
op_code n (JumpIf test target r v) = target_code target ++ (flag_code (negated test) (register r) v ++ ws.JumpIfZero (target_label n target) ∷ [])

abbrev pub ops_code : ℕ → List Op → List Instruction
ops_code n [] = []
ops_code n (op ∷ ops) = op_code n op ++ ops_code n ops

-- the blocks from a number on, of so many: one falls into the next
abbrev pub blocks_code : ℕ → ℕ → List (List Op) → List Instruction
blocks_code n k [] = []
blocks_code n k (ops ∷ blocks) = ws.Mark (block_label k) ∷ (ops_code n ops ++ blocks_code n (suc k) blocks)

-- ends
abbrev pub end_code : List Instruction
end_code = ws.Mark end_label ∷ ws.End ∷ []

-- goes to where the blocks below a number are looked up, if the wanted one is below it
abbrev pub branch_code : ℕ → List Instruction
branch_code middle = ws.Push wanted ∷ ws.Retrieve ∷ ws.Push (pos middle) ∷ ws.Subtract ∷ ws.JumpIfNegative (branch_label middle) ∷ []

-- goes to the wanted block of so many, one of the 2 ^ depth numbers from a number on; from n on each number leads to the end
abbrev pub tree_code : ℕ → ℕ → ℕ → List Instruction
tree_code n zero low = ws.Jump (goal_label n low) ∷ []
tree_code n (suc depth) low =
    let middle = low + 2 ^ depth in
    cond (nat_lt n middle) (tree_code n depth low) (branch_code middle ++ (tree_code n depth middle ++ ws.Mark (branch_label middle) ∷ tree_code n depth low))

-- goes to the wanted block of so many, or else to the end: by as many comparisons as the number of blocks has binary digits
abbrev pub dispatch_code : ℕ → List Instruction
dispatch_code n = ws.Mark dispatch_label ∷ tree_code n (digit_count n) 0

-- stores the data words from an address on
abbrev pub words_code : ℕ → List Word → List Instruction
words_code a [] = []
words_code a (word ∷ words) = ws.Push (pos a) ∷ ws.Push (pos (number_of word)) ∷ ws.Store ∷ words_code (a + 1) words

-- stores the data words, goes to the block that comes first, and has the dispatch, the blocks and the end
abbrev pub code_of : Eir → List Instruction
code_of p =
    let n = length p.blocks in
    words_code 0 p.words ++ ws.Jump (goal_label n p.start) ∷ (dispatch_code n ++ (blocks_code n 0 p.blocks ++ end_code))
