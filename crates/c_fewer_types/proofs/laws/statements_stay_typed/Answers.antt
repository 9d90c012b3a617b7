use Rattle.c_fewer_types.proofs.Statements.{statements_stay_typed as law}
use Rattle.c_fewer_types.proofs.laws.statements_stay_typed.Goals as goal

pub returns : goal.returns
returns c = law
