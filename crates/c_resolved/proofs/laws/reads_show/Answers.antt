use Rattle.c_resolved.proofs.Reading.{reads}
use Rattle.c_resolved.proofs.laws.reads_show.Goals as goal

pub returns : goal.returns
returns c = reads
