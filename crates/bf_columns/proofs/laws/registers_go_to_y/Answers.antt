use Rattle.bf_columns.proofs.Swept.{to_y_done}
use Rattle.bf_columns.proofs.laws.registers_go_to_y.Goals as goal

pub returns : goal.returns
returns c = to_y_done
