use Rattle.elvm_sample.proofs.Running.{sample_ends}
use Rattle.elvm_sample.proofs.laws.samples_end.Goals as goal

pub returns : goal.returns
returns c = sample_ends
