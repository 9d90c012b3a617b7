use Rattle.bf_ops.proofs.Performed.{eirs}
use Rattle.bf_ops.proofs.laws.operations_are_eirs.Goals as goal

pub returns : goal.returns
returns c = eirs
