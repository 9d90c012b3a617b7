use Rattle.c_valid.proofs.Runs.{runs_stay_valid as law}
use Rattle.c_valid.proofs.laws.runs_stay_valid.Goals as goal

pub returns : goal.returns
returns c = law
