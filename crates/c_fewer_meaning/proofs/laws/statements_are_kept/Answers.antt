use Rattle.c_fewer_meaning.proofs.FewerStatementsKept.{statements_are_kept as law}
use Rattle.c_fewer_meaning.proofs.laws.statements_are_kept.Goals as goal

pub returns : goal.returns
returns c = law
