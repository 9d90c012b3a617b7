use Rattle.bf_columns.proofs.Written.{bytes_written}
use Rattle.bf_columns.proofs.laws.bytes_are_written.Goals as goal

pub returns : goal.returns
returns c = bytes_written
