use Rattle.c_resolved.proofs.Pointing.{equality_shows as law}
use Rattle.c_resolved.proofs.laws.equality_shows.Goals as goal

pub returns : goal.returns
returns c = law
