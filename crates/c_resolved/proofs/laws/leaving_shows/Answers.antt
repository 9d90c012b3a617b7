use Rattle.c_resolved.proofs.Blocks.{leaving_shows as law}
use Rattle.c_resolved.proofs.laws.leaving_shows.Goals as goal

pub returns : goal.returns
returns c = law
