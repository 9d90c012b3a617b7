use Rattle.bf_turn.proofs.Goals.{block_adds}
use Rattle.bf_turn.proofs.Coded.{block_coded}
use Rattle.bf_turn.proofs.goal.aim_block.Goals as goal

pub returns-clause-code : goal.returns-clause-code
returns-clause-code c = block_coded c.args.f.now c.args.digits c.cell_of-cell.result c.args.reg c.cell_of-cell.ensures.cell c.in_ok-dup_word.ensures.code c.in_ok-add_const.ensures.code

pub returns-clause-effect : goal.returns-clause-effect
returns-clause-effect c = block_adds c.args.digits c.cell_of-cell.result c.args.reg c.cell_of-cell.ensures.cell c.in_ok-dup_word.ensures.effect c.in_ok-add_const.ensures.effect
