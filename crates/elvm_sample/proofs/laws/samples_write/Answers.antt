use Rattle.elvm_sample.proofs.Running.{sample_writes}
use Rattle.elvm_sample.proofs.laws.samples_write.Goals as goal

pub returns : goal.returns
returns c = sample_writes
