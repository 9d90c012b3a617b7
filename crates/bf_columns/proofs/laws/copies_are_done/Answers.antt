use Rattle.bf_columns.proofs.Swept.{copies_done}
use Rattle.bf_columns.proofs.laws.copies_are_done.Goals as goal

pub returns : goal.returns
returns c = copies_done
