use Rattle.bf_ops.proofs.Lengths.{operations_short}
use Rattle.bf_ops.proofs.laws.operations_are_short.Goals as goal

pub returns : goal.returns
returns c = operations_short
