use Rattle.c_fewer_names.proofs.Whole.{names_pass as law}
use Rattle.c_fewer_names.proofs.laws.names_pass.Goals as goal

pub returns : goal.returns
returns c = law
