use Rattle.c_resolved.proofs.Pointing.{differences_show as law}
use Rattle.c_resolved.proofs.laws.differences_show.Goals as goal

pub returns : goal.returns
returns c = law
