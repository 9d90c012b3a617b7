use Rattle.c_resolved.proofs.Meant.{fetches as law}
use Rattle.c_resolved.proofs.laws.fetches_show.Goals as goal

pub returns : goal.returns
returns c = law
