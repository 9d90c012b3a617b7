use Rattle.c_resolved.proofs.Pointing.{moves_show as law}
use Rattle.c_resolved.proofs.laws.moves_show.Goals as goal

pub returns : goal.returns
returns c = law
