use Rattle.bf_codes.proofs.Operated.{performs}
use Rattle.bf_codes.proofs.laws.operations_are_performed.Goals as goal

pub returns : goal.returns
returns c = performs
