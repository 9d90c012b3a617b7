use Rattle.c_fewer_reached.proofs.Reached.{reached_begins as law}
use Rattle.c_fewer_reached.proofs.laws.reached_begins.Goals as goal

pub returns : goal.returns
returns c = law
