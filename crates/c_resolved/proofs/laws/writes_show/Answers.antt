use Rattle.c_resolved.proofs.Writing.{writes_show as law}
use Rattle.c_resolved.proofs.laws.writes_show.Goals as goal

pub returns : goal.returns
returns c = law
