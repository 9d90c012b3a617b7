use Rattle.elvm_sample.proofs.Blocks.{sample_size}
use Rattle.elvm_sample.proofs.laws.samples_have_their_size.Goals as goal

pub returns : goal.returns
returns c = sample_size
