use Rattle.sim_bounds.proofs.Closed.{bounds_are_closed as law}
use Rattle.sim_bounds.proofs.laws.bounds_are_closed.Goals as goal

pub returns : goal.returns
returns c = law
