use Rattle.c_fewer_names.proofs.Whole.{main_is_reached as law}
use Rattle.c_fewer_names.proofs.laws.main_is_reached.Goals as goal

pub returns : goal.returns
returns c = law
