use Rattle.c_fewer_names.proofs.Typed.{programs_stay_typed as law}
use Rattle.c_fewer_names.proofs.laws.programs_stay_typed.Goals as goal

pub returns : goal.returns
returns c = law
