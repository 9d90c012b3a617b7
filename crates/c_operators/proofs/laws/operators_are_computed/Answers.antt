use Rattle.c_operators.proofs.Computing.{operators_are_computed}
use Rattle.c_operators.proofs.laws.operators_are_computed.Goals as goal

pub returns : goal.returns
returns c = operators_are_computed
