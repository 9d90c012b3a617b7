use Rattle.bf_columns.proofs.Neared.{near_found}
use Rattle.bf_columns.proofs.laws.near_is_found.Goals as goal

pub returns : goal.returns
returns c = near_found
