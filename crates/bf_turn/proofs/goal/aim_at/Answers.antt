use Rattle.bf_ops.proofs.Acts.{on_ok}
use Rattle.bf_jump.specs.declared.goal.Goal.TheVariants.{Operation, Block}
use Rattle.bf_turn.proofs.Goals.{goal_adds}
use Rattle.bf_turn.proofs.Coded.{goal_coded}
use Rattle.bf_turn.proofs.goal.aim_at.Goals as goal

pub returns-in-Operation-clause-code : goal.returns-in-Operation-clause-code
returns-in-Operation-clause-code c = on_ok c.aim_operation.result (goal_coded c.args.f.now c.args.digits c.args.goal (Operation c.in-Operation.number) c.in-Operation.is) c.aim_operation.ensures.code

pub returns-in-Operation-clause-effect : goal.returns-in-Operation-clause-effect
returns-in-Operation-clause-effect c = on_ok c.aim_operation.result (goal_adds c.args.digits c.args.goal (Operation c.in-Operation.number) c.in-Operation.is) c.aim_operation.ensures.effect

pub returns-in-Block-clause-code : goal.returns-in-Block-clause-code
returns-in-Block-clause-code c = on_ok c.aim_block.result (goal_coded c.args.f.now c.args.digits c.args.goal (Block c.in-Block.reg) c.in-Block.is) c.aim_block.ensures.code

pub returns-in-Block-clause-effect : goal.returns-in-Block-clause-effect
returns-in-Block-clause-effect c = on_ok c.aim_block.result (goal_adds c.args.digits c.args.goal (Block c.in-Block.reg) c.in-Block.is) c.aim_block.ensures.effect
