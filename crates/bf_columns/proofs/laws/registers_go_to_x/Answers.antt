use Rattle.bf_columns.proofs.Swept.{to_x_done}
use Rattle.bf_columns.proofs.laws.registers_go_to_x.Goals as goal

pub returns : goal.returns
returns c = to_x_done
