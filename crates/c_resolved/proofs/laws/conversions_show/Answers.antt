use Rattle.c_resolved.proofs.Meant.{conversions as law}
use Rattle.c_resolved.proofs.laws.conversions_show.Goals as goal

pub returns : goal.returns
returns c = law
