-- The text of an operation by itself, and the way on to the operation that follows.
use Rattle.std.specs.Prelude.{◌≡◌, ℕ, ◌≤◌, List, [], ◌++◌, length}
use Rattle.eir_core.specs.declared.ops.Op.{Op}
use Rattle.eir_core.specs.declared.ops.Op.TheVariants.{Exit, Jump, JumpIf}
use Rattle.bf_lang.specs.declared.command.Command.{Command}
use Rattle.bf_tape.specs.Code.{goto_code}
use Rattle.bf_ops.specs.OpsCode.{operation_code, operation_cell}
use Rattle.bf_choice.specs.Choice.{digit_cell, aim_code}
use Rattle.bf_jump.specs.Pose.{pose_code}
use Rattle.bf_jump.specs.Goal.{note_goal_code, note_goal_cell}
use Rattle.bf_jump.specs.declared.goal.Goal.TheVariants.{Operation}
use Rattle.bf_turn.specs.Goal.{goal_of}
use Rattle.bf_turn.specs.Code.{toward_code, arm_code}

-- what an operation itself takes of the text, and where the head is then: a jump leads to its goal, and a conditional one asks and notes it. `numbers` are those of the blocks' first operations
abbrev pub own_code : ℕ → List ℕ → Op → List Command
own_code d numbers Exit = toward_code d (Operation 0)
own_code d numbers (Jump v) = toward_code d (goal_of numbers v)
own_code d numbers (JumpIf test v x w) = pose_code 0 test x w ++ note_goal_code 48 d (goal_of numbers v)
own_code d numbers op = operation_code 0 op

abbrev pub own_cell : ℕ → List ℕ → Op → ℕ
own_cell d numbers (JumpIf test v x w) = note_goal_cell 48 d (goal_of numbers v)
own_cell d numbers op = operation_cell 0 op

-- what leads to the operation that follows, where one can follow
abbrev pub behind_code : ℕ → ℕ → ℕ → List Command
behind_code h d next = aim_code h d next ++ goto_code (digit_cell h d) 0

abbrev pub onward_code : ℕ → List ℕ → ℕ → Op → List Command
onward_code d numbers next Exit = []
onward_code d numbers next (Jump v) = []
onward_code d numbers next op = behind_code (own_cell d numbers op) d next

-- an operation's piece is its own text, of at most 1,000 commands, and the way on
pub record HasShortText (d : ℕ) (numbers : List ℕ) (next : ℕ) (op : Op) : Type 0 where
  pub parts : arm_code d numbers next op ≡ own_code d numbers op ++ onward_code d numbers next op
  pub short : length (own_code d numbers op) ≤ 1000

-- so it is of each operation, in a program of any number of digits that is emitted
abbrev pub OwnTextsAreShort : Type 0
OwnTextsAreShort = (d : ℕ) (numbers : List ℕ) (next : ℕ) (op : Op) → d ≤ 14 → HasShortText d numbers next op
