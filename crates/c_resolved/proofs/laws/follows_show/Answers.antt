use Rattle.c_resolved.proofs.Meant.{follows as law}
use Rattle.c_resolved.proofs.laws.follows_show.Goals as goal

pub returns : goal.returns
returns c = law
