use Rattle.c_fewer_types.proofs.FewerLiteralsProofs.{statements_keep_literals as law}
use Rattle.c_fewer_types.proofs.laws.statements_keep_literals.Goals as goal

pub returns : goal.returns
returns c = law
