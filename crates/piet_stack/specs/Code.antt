-- The commands for operations, on a stack with the number of pairs, the registers and the memory.
-- It serves the proofs alone: what an emission promises names none of it.
use Rattle.std.specs.Prelude.{ℕ, zero, suc, ◌+◌, ◌-◌, ◌/◌, ◌%◌, ◌^◌, nat_lt, nat_eq, cond, List, [], ◌∷◌, ◌++◌}
use Rattle.word24.specs.Word.{number_of}
use Rattle.eir_core.specs.declared.ops.Reg.{Reg}
use Rattle.eir_core.specs.declared.ops.Reg.TheVariants.{A, B, C, D, SP, BP}
use Rattle.eir_core.specs.declared.ops.Operand.{Operand}
use Rattle.eir_core.specs.declared.ops.Operand.TheVariants.{Reg as register, Imm}
use Rattle.eir_core.specs.declared.ops.Cond.{Cond}
use Rattle.eir_core.specs.declared.ops.Cond.TheVariants.{Eq, Ne, Lt, Gt, Le, Ge}
use Rattle.eir_core.specs.declared.ops.Op.{Op}
use Rattle.eir_core.specs.declared.ops.Op.TheVariants as op
use Rattle.piet_stack.specs.declared.operation.Ways.{Ways}
use Rattle.piet_lane.specs.declared.command.Command.{Command}
use Rattle.piet_lane.specs.declared.command.Command.TheVariants.{Push, Pop, Add, Subtract, Multiply, Divide, Modulo, Not, Greater, Duplicate, Roll, InChar, OutChar}

-- pushes a number below 2 ^ width by its binary digits: the highest one is pushed, and each other one doubles what there is and adds itself
unfoldable pub digits_code : ℕ → ℕ → List Command
digits_code zero n = Push ∷ Not ∷ []
digits_code (suc width) n =
    cond (nat_lt n 2)
    (Push ∷ cond (nat_eq n 0) (Not ∷ []) [])
    (digits_code width (n / 2) ++ Duplicate ∷ Add ∷ cond (nat_eq (n % 2) 1) (Push ∷ Add ∷ []) [])

-- pushes a number
abbrev pub number_code : ℕ → List Command
number_code n = digits_code 25 n

-- turns so many values at the top, so many times
abbrev pub roll_code : ℕ → ℕ → List Command
roll_code depth times = number_code depth ++ (number_code times ++ Roll ∷ [])

-- swaps the two values at the top
abbrev pub swap_code : List Command
swap_code = roll_code 2 1

-- pushes the value that lies so deep
abbrev pub pick_code : ℕ → List Command
pick_code depth = roll_code (depth + 1) depth ++ Duplicate ∷ roll_code (depth + 2) 1

-- takes the top value, and puts it in the place of the one that lay so deep under it
abbrev pub put_code : ℕ → List Command
put_code depth = roll_code (depth + 2) (depth + 1) ++ Pop ∷ roll_code (depth + 1) 1

abbrev pub reg_index : Reg → ℕ
reg_index A = 0
reg_index B = 1
reg_index C = 2
reg_index D = 3
reg_index SP = 4
reg_index BP = 5

-- pushes the word of an operand, with so many values above the number of pairs
abbrev pub value_code : ℕ → Operand → List Command
value_code above (register r) = pick_code (above + 1 + reg_index r)
value_code above (Imm w) = number_code (number_of w)

-- takes the one value above the number of pairs, and puts it into a register
abbrev pub put_reg_code : Reg → List Command
put_reg_code r = put_code (1 + reg_index r)

-- pushes 1 where the comparison of a register with a value holds, else 0
abbrev pub flag_code : Cond → Reg → Operand → List Command
flag_code Eq r v = value_code 0 (register r) ++ (value_code 1 v ++ Subtract ∷ Not ∷ [])
flag_code Ne r v = value_code 0 (register r) ++ (value_code 1 v ++ Subtract ∷ Not ∷ Not ∷ [])
flag_code Gt r v = value_code 0 (register r) ++ (value_code 1 v ++ Greater ∷ [])
flag_code Le r v = value_code 0 (register r) ++ (value_code 1 v ++ Greater ∷ Not ∷ [])
flag_code Lt r v = value_code 0 v ++ (value_code 1 (register r) ++ Greater ∷ [])
flag_code Ge r v = value_code 0 v ++ (value_code 1 (register r) ++ Greater ∷ Not ∷ [])

-- the number of no lane
abbrev pub no_lane : ℕ
no_lane = 32767

-- the lane of a block, of so many
abbrev pub block_lane : ℕ → ℕ → ℕ
block_lane blocks k = cond (nat_lt k blocks) k no_lane

-- puts the lane of a block in the place of its number: the number where it is below that of the blocks, else that of no lane
abbrev pub clamp_code : ℕ → List Command
clamp_code blocks =
    number_code blocks ++ (pick_code 1 ++ Greater ∷ Duplicate ∷ Not ∷ (number_code no_lane ++ Multiply ∷ (roll_code 3 1 ++ Multiply ∷ Add ∷ [])))

-- pushes the lane of the block that an operand names, with so many values above the number of pairs
abbrev pub target_code : ℕ → ℕ → Operand → List Command
target_code blocks above (register r) = value_code above (register r) ++ clamp_code blocks
target_code blocks above (Imm w) = number_code (block_lane blocks (number_of w))

-- with 1 or 0 on top: in its place the lane of the block that an operand names, or else the one with this number
abbrev pub choose_code : ℕ → ℕ → Operand → List Command
choose_code blocks on target = Duplicate ∷ Not ∷ (number_code on ++ Multiply ∷ (swap_code ++ (target_code blocks 2 target ++ Multiply ∷ Add ∷ [])))

-- with an address on top: pushes 1 where it is high, else 0
abbrev pub high_code : List Command
high_code = Duplicate ∷ (number_code (2 ^ 23 - 1) ++ Greater ∷ [])

-- then pushes the address where it is not high, else 0
abbrev pub low_code : List Command
low_code = pick_code 1 ++ (pick_code 1 ++ Not ∷ Multiply ∷ [])

-- then adds how far it is from the end where it is high
abbrev pub near_code : List Command
near_code = number_code (2 ^ 24 - 1) ++ (pick_code 3 ++ Subtract ∷ (pick_code 2 ++ Multiply ∷ Add ∷ []))

-- puts the place of an address among the words of memory in the place of the address: twice how near it is to an end, and one more where it is high
abbrev pub place_code : List Command
place_code = high_code ++ (low_code ++ (near_code ++ Duplicate ∷ Add ∷ Add ∷ put_code 0))

-- with a place on top: so many values under it and the ones up to that place, and one less
abbrev pub depth_code : ℕ → List Command
depth_code under = number_code under ++ Add ∷ []

-- brings the word at the place on top above that place
abbrev pub bring_code : List Command
bring_code = Duplicate ∷ (depth_code 9 ++ Duplicate ∷ Push ∷ Subtract ∷ Roll ∷ [])

-- behind the lane that sees to the pairs: the word at the place on top goes into a register
abbrev pub load_code : Reg → List Command
load_code r = bring_code ++ (swap_code ++ (pick_code 1 ++ (swap_code ++ (depth_code 9 ++ Push ∷ Roll ∷ put_reg_code r))))

-- behind the lane that sees to the pairs: the word at the place on top becomes that of a register
abbrev pub store_code : Reg → List Command
store_code r = bring_code ++ Pop ∷ (pick_code (2 + reg_index r) ++ (swap_code ++ (depth_code 8 ++ Push ∷ Roll ∷ [])))

-- with a lane and a place on top: pushes the number of the second of two lanes if there are pairs up to that place, else that of the first
abbrev pub ensure_code : ℕ → List Command
ensure_code grow = pick_code 2 ++ (pick_code 2 ++ (number_code 2 ++ Divide ∷ Greater ∷ (number_code grow ++ Add ∷ [])))

-- with a lane and a place on top: one pair more, of zeros, at the bottom
abbrev pub grow_code : List Command
grow_code =
    Push ∷ Not ∷ Push ∷ Not ∷ (pick_code 4 ++ Duplicate ∷ Add ∷ (number_code 11 ++ Add ∷ (number_code 2 ++ Roll ∷ (pick_code 2 ++ Push ∷ Add ∷ put_code 2))))

-- the lane of an operation
abbrev pub op_code : Ways → Op → List Command
op_code w (op.Mov r v) = value_code 0 v ++ (put_reg_code r ++ number_code w.on)
op_code w (op.Add r v) = value_code 0 (register r) ++ (value_code 1 v ++ Add ∷ (number_code (2 ^ 24) ++ Modulo ∷ (put_reg_code r ++ number_code w.on)))
op_code w (op.Sub r v) =
    value_code 0 (register r) ++ (number_code (2 ^ 24) ++ Add ∷ (value_code 1 v ++ Subtract ∷ (number_code (2 ^ 24) ++ Modulo ∷ (put_reg_code r ++ number_code w.on))))
op_code w (op.Load r v) = value_code 0 v ++ (place_code ++ (number_code w.second ++ number_code w.ensure))
op_code w (op.Store r v) = value_code 0 v ++ (place_code ++ (number_code w.second ++ number_code w.ensure))
op_code w (op.Putc v) = value_code 0 v ++ OutChar ∷ number_code w.on
op_code w (op.Getc r) = InChar ∷ (put_reg_code r ++ number_code w.on)
op_code w op.Exit = number_code no_lane
op_code w (op.Set test r v) = flag_code test r v ++ (put_reg_code r ++ number_code w.on)
op_code w (op.Jump target) = target_code w.blocks 0 target
op_code w (op.JumpIf test target r v) = flag_code test r v ++ choose_code w.blocks w.on target

-- the second lane of an operation, which a load or a store goes on with
abbrev pub second_code : Ways → Op → List Command
second_code w (op.Load r v) = load_code r ++ number_code w.on
second_code w (op.Store r v) = store_code r ++ number_code w.on
second_code w _ = []
