use Rattle.std.proofs.Common.{ap, sym, ◌∙◌}
use Rattle.bf_turn.proofs.Armed.{exit_arm, jump_arm, branch_arm, other_arm, other_goal, if_ok}
use Rattle.bf_turn.specs.Code.{toward_code, branch_code, arm_code}
use Rattle.bf_turn.proofs.Listed.{no_branch}
use Rattle.bf_turn.proofs.Coded.{other_coded}
use Rattle.bf_turn.proofs.arm.arm.Goals as goal

pub returns-in-Exit-clause-code : goal.returns-in-Exit-clause-code
returns-in-Exit-clause-code c = if_ok c.toward.result (λ a e. e ∙ ap (arm_code c.args.digits c.args.numbers.now c.args.next) (sym c.in-Exit.is)) c.toward.ensures.code

pub returns-in-Jump-clause-code : goal.returns-in-Jump-clause-code
returns-in-Jump-clause-code c =
    if_ok c.toward-in-Jump.result (λ a e. e ∙ (ap (toward_code c.args.digits) c.goal_of.ensures ∙ ap (arm_code c.args.digits c.args.numbers.now c.args.next) (sym c.in-Jump.is))) c.toward-in-Jump.ensures.code

pub returns-in-JumpIf-clause-code : goal.returns-in-JumpIf-clause-code
returns-in-JumpIf-clause-code c =
    if_ok c.jump_if.result
    (λ a e. e ∙ (ap (λ g. branch_code c.args.digits c.in-JumpIf.test c.in-JumpIf.reg c.in-JumpIf.operand g c.args.next) c.goal_of-in-JumpIf.ensures ∙ ap (arm_code c.args.digits c.args.numbers.now c.args.next) (sym c.in-JumpIf.is))) c.jump_if.ensures.code

pub returns-in_default-clause-code : goal.returns-in_default-clause-code
returns-in_default-clause-code c = if_ok c.go_on.result (λ a e. e ∙ other_coded c.args.digits c.args.next c.args.numbers.now c.args.op c.in_default.not-Exit c.in_default.not-Jump c.in_default.not-JumpIf) c.go_on.ensures.code

pub returns-in-Exit-clause-effect : goal.returns-in-Exit-clause-effect
returns-in-Exit-clause-effect c = if_ok c.toward.result (λ a. exit_arm c.args.digits c.args.next c.args.numbers.now c.args.op a.commands c.in-Exit.is) c.toward.ensures.heads

pub returns-in-Jump-clause-effect : goal.returns-in-Jump-clause-effect
returns-in-Jump-clause-effect c =
    if_ok c.toward-in-Jump.result (λ a. jump_arm c.args.digits c.args.next c.args.numbers.now c.args.op c.in-Jump.target c.goal_of.result a.commands c.in-Jump.is c.goal_of.ensures) c.toward-in-Jump.ensures.heads

pub returns-in-JumpIf-clause-effect : goal.returns-in-JumpIf-clause-effect
returns-in-JumpIf-clause-effect c =
    if_ok c.jump_if.result
    (λ a. branch_arm c.args.digits c.args.next c.args.numbers.now c.args.op c.in-JumpIf.test c.in-JumpIf.target c.in-JumpIf.reg c.in-JumpIf.operand c.goal_of-in-JumpIf.result a.commands c.in-JumpIf.is c.goal_of-in-JumpIf.ensures)
    c.jump_if.ensures.effect

pub returns-in_default-clause-effect : goal.returns-in_default-clause-effect
returns-in_default-clause-effect c =
    if_ok c.go_on.result
    (λ a. other_arm c.args.digits c.args.next c.args.numbers.now c.args.op a.commands (sym (no_branch c.args.op c.in_default.not-JumpIf)) (λ r. other_goal c.args.numbers.now c.args.next r c.args.op c.in_default.not-Exit c.in_default.not-Jump c.in_default.not-JumpIf))
    c.go_on.ensures.effect
