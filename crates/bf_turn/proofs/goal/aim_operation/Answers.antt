use Rattle.bf_turn.proofs.Goals.{operation_adds}
use Rattle.bf_turn.proofs.goal.aim_operation.Goals as goal

pub returns-clause-code : goal.returns-clause-code
returns-clause-code c = c.in_ok-aim.ensures.code

pub returns-clause-effect : goal.returns-clause-effect
returns-clause-effect c = operation_adds c.args.digits c.args.number c.requires c.in_ok-aim.ensures.effect
