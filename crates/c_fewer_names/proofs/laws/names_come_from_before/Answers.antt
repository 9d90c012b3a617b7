use Rattle.c_fewer_names.proofs.Statements.{names_come_from_before as law}
use Rattle.c_fewer_names.proofs.laws.names_come_from_before.Goals as goal

pub returns : goal.returns
returns c = law
