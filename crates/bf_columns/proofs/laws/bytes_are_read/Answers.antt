use Rattle.bf_columns.proofs.Taken.{bytes_read}
use Rattle.bf_columns.proofs.laws.bytes_are_read.Goals as goal

pub returns : goal.returns
returns c = bytes_read
