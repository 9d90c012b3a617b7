use Rattle.c_fewer_reached.proofs.Reached.{reached_is_closed as law}
use Rattle.c_fewer_reached.proofs.laws.reached_is_closed.Goals as goal

pub returns : goal.returns
returns c = law
