use Rattle.c_resolved.proofs.Meant.{assignments as law}
use Rattle.c_resolved.proofs.laws.assignments_show.Goals as goal

pub returns : goal.returns
returns c = law
