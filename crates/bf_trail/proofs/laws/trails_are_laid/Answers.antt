use Rattle.bf_trail.proofs.Aimed.{trails_laid}
use Rattle.bf_trail.proofs.laws.trails_are_laid.Goals as goal

pub returns : goal.returns
returns c = trails_laid
