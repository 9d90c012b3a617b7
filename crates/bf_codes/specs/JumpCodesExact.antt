-- The exact commands of conditional jumps, with no call that makes them.
use Rattle.std.specs.Prelude.{ℕ, ◌*◌, ◌^◌, ◌<◌, ◌≤◌}
use Rattle.eir_core.specs.declared.ops.Reg.{Reg}
use Rattle.eir_core.specs.declared.ops.Operand.{Operand}
use Rattle.eir_core.specs.declared.ops.Cond.{Cond}
use Rattle.bf_tape.specs.Piece.{Piece, joined, Adds}
use Rattle.bf_ops.specs.Frame.{IsFrame}
use Rattle.bf_codes.specs.Exact.{start}
use Rattle.bf_jump.specs.declared.goal.Goal.{Goal}
use Rattle.bf_jump.specs.Pose.{pose_code, posed}
use Rattle.bf_jump.specs.Goal.{noted_for, note_goal_code, note_goal_cell, decide_code, IsNotable, Decides}

-- a comparison's commands pose it
abbrev pub CodesPose : Type 0
CodesPose = (test : Cond) (x : Reg) (v : Operand) → Adds (start 0) (record { commands = pose_code 0 test x v; cell = 48 }) IsFrame (λ input s. posed test x v s) (7 * 2 ^ 20) (2 ^ 14)

-- a goal's commands note it
abbrev pub CodesNote : Type 0
CodesNote = (p : Piece) (d : ℕ) (goal : Goal) → p.cell < 256 → d ≤ 14 → Adds p (joined p (note_goal_code p.cell d goal) (note_goal_cell p.cell d goal)) (IsNotable d) (λ input s. noted_for d goal s) (2 ^ 14) (2 ^ 13)

-- what is asked is decided
abbrev pub CodesDecide : Type 0
CodesDecide = (p : Piece) (d : ℕ) → p.cell < 256 → d ≤ 14 → Decides p (joined p (decide_code p.cell d) 48) d
