use Rattle.c_resolved.proofs.Blocks.{blocks_show as law}
use Rattle.c_resolved.proofs.laws.blocks_show.Goals as goal

pub returns : goal.returns
returns c = law
