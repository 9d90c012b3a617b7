use Rattle.sim_bounds.proofs.Closed.{programs_reach_half as law}
use Rattle.sim_bounds.proofs.laws.programs_reach_half.Goals as goal

pub returns : goal.returns
returns c = law
