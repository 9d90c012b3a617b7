-- The commands of a turn. `h` is the cell at which the head is before them.
use Rattle.std.specs.Prelude.{ℕ, zero, suc, ◌+◌, Bool, List, [], ◌∷◌, ◌++◌, length, flat_map, slice_index}
use Rattle.eir_core.specs.declared.ops.Reg.{Reg}
use Rattle.eir_core.specs.declared.ops.Operand.{Operand}
use Rattle.eir_core.specs.declared.ops.Cond.{Cond}
use Rattle.eir_core.specs.declared.ops.Op.{Op}
use Rattle.eir_core.specs.declared.ops.Op.TheVariants.{Exit, Jump, JumpIf}
use Rattle.eir_core.specs.Eir.{Eir}
use Rattle.bf_lang.specs.declared.command.Command.{Command}
use Rattle.bf_tape.specs.Code.{goto_code, add_code, times_code}
use Rattle.bf_word.specs.WordCode.{dup_word_code, clear_word_code, once_code}
use Rattle.bf_ops.specs.Frame.{cell_of}
use Rattle.bf_ops.specs.OpsCode.{operation_code, operation_cell}
use Rattle.bf_choice.specs.Choice.{digit_cell, aim_code, advance_code, tree_code}
use Rattle.bf_jump.specs.Goal.{note_goal_code, note_goal_cell}
use Rattle.bf_jump.specs.Pose.{pose_code}
use Rattle.bf_jump.specs.declared.goal.Goal.{Goal}
use Rattle.bf_jump.specs.declared.goal.Goal.TheVariants.{Operation, Block}
use Rattle.bf_turn.specs.Number.{op_count, first_numbers, following, digits_in, accesses, branches}
use Rattle.bf_turn.specs.Goal.{goal_of}
use Rattle.bf_turn.specs.Turn.{decision_code, decision_cell, tail_code, tail_cell}

-- a goal aimed at, where the head is then, and the piece that does it
abbrev pub goal_code : ℕ → ℕ → Goal → List Command
goal_code h d (Operation n) = aim_code h d n
goal_code h d (Block x) = dup_word_code h (cell_of x) 114 (cell_of x + 3) ++ add_code (cell_of x + 3) 44 1

abbrev pub goal_cell : ℕ → ℕ → Goal → ℕ
goal_cell h d (Operation n) = digit_cell h d
goal_cell h d (Block x) = 44

abbrev pub toward_code : ℕ → Goal → List Command
toward_code d g = goal_code 0 d g ++ goto_code (goal_cell 0 d g) 0

-- the piece of an operation behind which a number stands
abbrev pub on_code : ℕ → Op → ℕ → List Command
on_code d op next = operation_code 0 op ++ aim_code (operation_cell 0 op) d next ++ goto_code (digit_cell (operation_cell 0 op) d) 0

-- a conditional jump poses its comparison, notes its goal, and aims at what follows
abbrev pub branch_code : ℕ → Cond → Reg → Operand → Goal → ℕ → List Command
branch_code d test x v goal next = pose_code 0 test x v ++ note_goal_code 48 d goal ++ aim_code (note_goal_cell 48 d goal) d next ++ goto_code (digit_cell (note_goal_cell 48 d goal) d) 0

abbrev pub arm_code : ℕ → List ℕ → ℕ → Op → List Command
arm_code d numbers next Exit = toward_code d (Operation 0)
arm_code d numbers next (Jump v) = toward_code d (goal_of numbers v)
arm_code d numbers next (JumpIf test v x w) = branch_code d test x w (goal_of numbers v) next
arm_code d numbers next op = on_code d op next

-- the pieces of the end and of all operations
abbrev pub arms_code : ℕ → List ℕ → ℕ → ℕ → List Op → List (List Command)
arms_code d numbers last n [] = []
arms_code d numbers last n (op ∷ ops) = arm_code d numbers (following last n) op ∷ arms_code d numbers last (n + 1) ops

abbrev pub all_code : Eir → List (List Command)
all_code p = add_code 0 0 255 ∷ arms_code (digits_in p) (first_numbers 1 p.blocks) (op_count p) 1 (flat_map (λ ops. ops) p.blocks)

-- a number is aimed at where the counter has a borrow, and the first so many numbers counted down
abbrev pub find_code : ℕ → ℕ → List Command
find_code d n = times_code 114 123 (aim_code 123 d n ++ goto_code (digit_cell 123 d) 123)

abbrev pub count_cell : ℕ → ℕ → ℕ
count_cell h zero = h
count_cell h (suc i) = 123

abbrev pub count_code : ℕ → ℕ → List ℕ → ℕ → List Command
count_code h d numbers zero = []
count_code h d numbers (suc i) = count_code h d numbers i ++ once_code (count_cell h i) 114 ++ find_code d (slice_index numbers i)

abbrev pub look_code : ℕ → ℕ → List ℕ → List Command
look_code h d numbers = times_code h 44 (count_code 44 d numbers (length numbers) ++ clear_word_code (count_cell 44 (length numbers)) 114 ++ goto_code 116 44)

-- what is behind the choice, and a turn
abbrev pub around_code : ℕ → List ℕ → Bool → List Command → List Command
around_code d numbers tail tree = tree ++ tail_code 0 tail ++ look_code (tail_cell 0 tail) d numbers ++ advance_code 44 d ++ goto_code (digit_cell 44 d) 0

-- behind the choice, what conditional jumps asked is decided
abbrev pub decided_code : ℕ → Bool → List Command → List Command
decided_code d branches tree = tree ++ decision_code 0 d branches ++ goto_code (decision_cell 0 branches) 0

abbrev pub turn_code : Eir → List Command
turn_code p = around_code (digits_in p) (first_numbers 1 p.blocks) (accesses p) (decided_code (digits_in p) (branches p) (tree_code (digits_in p) (all_code p)))
