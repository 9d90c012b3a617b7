use Rattle.bf_columns.proofs.Worked.{columns_are_worked}
use Rattle.bf_columns.proofs.laws.columns_are_worked.Goals as goal

pub returns : goal.returns
returns c = columns_are_worked
