use Rattle.bf_columns.proofs.Back.{columns_back}
use Rattle.bf_columns.proofs.laws.columns_are_done_back.Goals as goal

pub returns : goal.returns
returns c = columns_back
