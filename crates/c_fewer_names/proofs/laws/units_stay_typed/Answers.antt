use Rattle.c_fewer_names.proofs.Main.{units_stay_typed as law}
use Rattle.c_fewer_names.proofs.laws.units_stay_typed.Goals as goal

pub returns : goal.returns
returns c = law
