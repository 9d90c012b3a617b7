-- A conditional jump.
use Rattle.std.proofs.Common.{◌≡◌, ℕ, ◌+◌, ◌*◌, ◌^◌, ◌≤◌, [], ◌++◌, length, sym, ap, subst, ◌∙◌, arith, length-append}
use Rattle.eir_core.specs.declared.ops.Reg.{Reg}
use Rattle.eir_core.specs.declared.ops.Operand.{Operand}
use Rattle.eir_core.specs.declared.ops.Cond.{Cond}
use Rattle.bf_lang.specs.Balance.{IsBalanced}
use Rattle.bf_lang.proofs.Partners.{balanced_append}
use Rattle.bf_tape.specs.Tape.{Tape}
use Rattle.bf_tape.specs.Does.{Does}
use Rattle.bf_tape.specs.Piece.{Piece, joined, Adds, any}
use Rattle.bf_tape.proofs.Moves.{does_then}
use Rattle.bf_ops.specs.Frame.{IsFrame}
use Rattle.bf_choice.specs.Choice.{AreFree, aimed}
use Rattle.bf_jump.specs.declared.goal.Goal.{Goal}
use Rattle.bf_jump.specs.Pose.{posed, pose_code}
use Rattle.bf_jump.specs.Goal.{noted_for, note_goal_code, note_goal_cell, IsNotable}
use Rattle.bf_jump.proofs.Lengths.{goal_short}
use Rattle.bf_jump.proofs.Headed.{posed_notable, noted_free}
use Rattle.bf_turn.specs.Arm.{Branches}

pub branches : {first mid noted next last : Piece} (d : ℕ) (test : Cond) (x : Reg) (v : Operand) (goal : Goal) (n : ℕ) → d ≤ 14 → first ≡ record { commands = []; cell = 0 }
    → mid ≡ joined first (pose_code first.cell test x v) 48 → noted ≡ joined mid (note_goal_code mid.cell d goal) (note_goal_cell mid.cell d goal) → Adds first mid IsFrame (λ input s. posed test x v s) (7 * 2 ^ 20) (2 ^ 14) → Adds mid noted (IsNotable d) (λ input s. noted_for d goal s) (2 ^ 14) (2 ^ 13)
    → Adds noted next (AreFree d) (λ input s. aimed d n s) (d * 512) (d * 512) → Adds next last any (λ input s. s) 255 255 → last.cell ≡ 0 → Branches last.commands d test x v goal n
branches {first = first} {mid = mid} {noted = noted} {next = next} {last = last} d test x v goal n few from posed_is noted_is pose note aim back home =
    let code : last.commands ≡ pose.added ++ note.added ++ aim.added ++ back.added =
    back.commands ∙ ap (λ xs. xs ++ back.added) (aim.commands ∙ ap (λ xs. xs ++ aim.added) (note.commands ∙ ap (λ xs. xs ++ note.added) (pose.commands ∙ ap (λ (p : Piece). p.commands ++ pose.added) from))) in
    let at_first : first.cell ≡ 0 = ap (λ p. p.cell) from in
    let posed_code : mid.commands ≡ pose.added = pose.commands ∙ ap (λ (p : Piece). p.commands ++ pose.added) from in
    let noted_code : noted.commands ≡ mid.commands ++ note_goal_code 48 d goal = ap (λ p. p.commands) noted_is ∙ ap (λ (p : Piece). mid.commands ++ note_goal_code p.cell d goal) posed_is in
    record {
      balanced = subst IsBalanced (sym code) (balanced_append (pose.added ++ note.added ++ aim.added) back.added (balanced_append (pose.added ++ note.added) aim.added (balanced_append pose.added note.added pose.balanced note.balanced) aim.balanced) back.balanced);
      short = omega (arith, few, ap length back.commands, ap length aim.commands, ap length noted_code, ap length posed_code, length-append next.commands back.added, length-append noted.commands aim.added, length-append mid.commands (note_goal_code 48 d goal), goal_short d goal few, pose.short, aim.short, back.short);
      does = λ input s is frame free.
          let t : Tape = posed test x v s in
          let u : Tape = noted_for d goal t in
          let all : Does input (pose.added ++ note.added ++ aim.added ++ back.added) first.cell s last.cell (aimed d n u) (2 ^ 23) =
          does_then (2 ^ 23) (does_then (7 * 2 ^ 20 + 2 ^ 14 + d * 512) (does_then (7 * 2 ^ 20 + 2 ^ 14) (pose.does input s is frame) (note.does input t is (posed_notable d test x v s few frame)) (omega arith)) (aim.does input u is (noted_free d test x v goal s few free)) (omega arith)) (back.does input (aimed d n u) is tt) (omega (arith, few)) in
          subst (λ y. Does input last.commands 0 s y (aimed d n u) (2 ^ 23)) home
          (subst (λ y. Does input last.commands y s last.cell (aimed d n u) (2 ^ 23)) at_first
          (subst (λ xs. Does input xs first.cell s last.cell (aimed d n u) (2 ^ 23)) (sym code) all));
    }
