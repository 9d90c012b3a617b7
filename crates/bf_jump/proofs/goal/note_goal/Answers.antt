use Rattle.bf_ops.proofs.Acts.{on_ok}
use Rattle.bf_ops.proofs.Coded.{code_as}
use Rattle.bf_jump.specs.declared.goal.Goal.TheVariants.{Operation, Block}
use Rattle.bf_jump.specs.Goal.{note_goal_code, note_goal_cell}
use Rattle.bf_jump.proofs.Headed.{noted_as}
use Rattle.bf_jump.proofs.goal.note_goal.Goals as goal

pub returns-in-Operation-clause-effect : goal.returns-in-Operation-clause-effect
returns-in-Operation-clause-effect c = on_ok c.note_number.result (noted_as c.args.digits c.args.goal (Operation c.in-Operation.number) c.in-Operation.is) c.note_number.ensures.effect

pub returns-in-Block-clause-effect : goal.returns-in-Block-clause-effect
returns-in-Block-clause-effect c = on_ok c.mark.result (noted_as c.args.digits c.args.goal (Block c.in-Block.reg) c.in-Block.is) c.mark.ensures.effect

pub returns-in-Operation-clause-code : goal.returns-in-Operation-clause-code
returns-in-Operation-clause-code c =
    on_ok c.note_number.result (code_as c.args.f.now (λ g. note_goal_code c.args.f.now.cell c.args.digits g) (λ g. note_goal_cell c.args.f.now.cell c.args.digits g) c.args.goal (Operation c.in-Operation.number) c.in-Operation.is) c.note_number.ensures.code

pub returns-in-Block-clause-code : goal.returns-in-Block-clause-code
returns-in-Block-clause-code c =
    on_ok c.mark.result (code_as c.args.f.now (λ g. note_goal_code c.args.f.now.cell c.args.digits g) (λ g. note_goal_cell c.args.f.now.cell c.args.digits g) c.args.goal (Block c.in-Block.reg) c.in-Block.is) c.mark.ensures.code
