use Rattle.c_fewer_names.proofs.Statements.{evaluated_names_are_all as law}
use Rattle.c_fewer_names.proofs.laws.evaluated_names_are_all.Goals as goal

pub returns : goal.returns
returns c = law
