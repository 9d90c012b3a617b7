-- Where operations go on.
use Rattle.std.specs.Prelude.{◌≡◌, ℕ, ◌+◌, ◌^◌, ◌≤◌, cond, List, length, slice_index}
use Rattle.mach_core.specs.Rule.{IsInput}
use Rattle.word24.specs.Word.{number_of}
use Rattle.eir_core.specs.declared.ops.Reg.{Reg}
use Rattle.eir_core.specs.declared.ops.Operand.{Operand}
use Rattle.eir_core.specs.declared.ops.Operand.TheVariants.{Reg as register, Imm}
use Rattle.eir_core.specs.declared.ops.Op.{Op}
use Rattle.eir_core.specs.declared.ops.Op.TheVariants.{Exit, Jump, JumpIf}
use Rattle.eir_core.specs.Step.{Regs, reg_of, value_of, holds}
use Rattle.bf_lang.specs.declared.command.Command.{Command}
use Rattle.bf_lang.specs.Balance.{IsBalanced}
use Rattle.bf_tape.specs.Tape.{Tape, get}
use Rattle.bf_tape.specs.Does.{Does}
use Rattle.bf_word.specs.Word.{word_in, IsClear, IsCounter}
use Rattle.bf_ops.specs.Frame.{cell_of}
use Rattle.bf_choice.specs.Choice.{AreFree}
use Rattle.bf_jump.specs.Goal.{aimed_for}
use Rattle.bf_jump.specs.declared.goal.Goal.{Goal}
use Rattle.bf_jump.specs.declared.goal.Goal.TheVariants.{Operation, Block}

-- the block that an operand names, of blocks whose first operations have these numbers
abbrev pub goal_of : List ℕ → Operand → Goal
goal_of numbers (register x) = Block x
goal_of numbers (Imm w) = Operation (slice_index numbers (number_of w))

-- where an operation goes on, if a number stands behind it
abbrev pub goal_after : List ℕ → ℕ → Regs → Op → Goal
goal_after numbers next r Exit = Operation 0
goal_after numbers next r (Jump v) = goal_of numbers v
goal_after numbers next r (JumpIf test v x w) = cond (holds test (reg_of r x) (value_of r w)) (goal_of numbers v) (Operation next)
goal_after numbers next r _ = Operation next

-- the number of a goal
abbrev pub number_for : List ℕ → Tape → Goal → ℕ
number_for numbers s (Operation n) = n
number_for numbers s (Block x) = slice_index numbers (word_in s (cell_of x))

-- nothing is aimed at yet
pub record IsOpen (d : ℕ) (s : Tape) : Type 0 where
  pub free : AreFree d s
  pub counters : (x : Reg) → IsCounter (cell_of x) s
  pub clear : IsClear s
  pub flag : get s 44 ≡ 0

-- commands that aim at a goal, from cell 0 and back
pub record Heads (code : List Command) (d : ℕ) (goal : Goal) : Type 0 where
  pub balanced : IsBalanced code
  pub short : length code ≤ 7423
  pub does : (input : List ℕ) (s : Tape) → IsInput input → IsOpen d s → Does input code 0 s 0 (aimed_for d goal s) (2 ^ 22 + 255)
