use Rattle.c_resolved.proofs.Blocks.{leaving_keeps_lengths as law}
use Rattle.c_resolved.proofs.laws.leaving_keeps_lengths.Goals as goal

pub returns : goal.returns
returns c = law
