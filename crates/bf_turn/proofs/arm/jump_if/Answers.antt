use Rattle.std.proofs.Common.{ap}
use Rattle.bf_turn.proofs.Branched.{branches}
use Rattle.bf_turn.proofs.Coded.{branch_coded}
use Rattle.bf_turn.proofs.arm.jump_if.Goals as goal

pub returns-clause-code : goal.returns-clause-code
returns-clause-code c = branch_coded c.args.digits c.args.test c.args.reg c.args.operand c.args.goal c.args.next c.new-arm.ensures c.in_ok-pose.ensures.code c.in_ok-note_goal.ensures.code c.in_ok-aim.ensures.code c.in_ok-goto.ensures.code

pub returns-clause-effect : goal.returns-clause-effect
returns-clause-effect c =
    branches c.args.digits c.args.test c.args.reg c.args.operand c.args.goal c.args.next c.requires c.new-arm.ensures c.in_ok-pose.ensures.code c.in_ok-note_goal.ensures.code c.in_ok-pose.ensures.effect c.in_ok-note_goal.ensures.effect c.in_ok-aim.ensures.effect c.in_ok-goto.ensures.effect (ap (λ p. p.cell) c.in_ok-goto.ensures.code)
