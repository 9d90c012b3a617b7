use Rattle.c_fewer_names.proofs.Whole.{firsts_start as law}
use Rattle.c_fewer_names.proofs.laws.firsts_start.Goals as goal

pub returns : goal.returns
returns c = law
