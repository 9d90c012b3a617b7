use Rattle.elvm_sample.proofs.Blocks.{sample_is_eir}
use Rattle.elvm_sample.proofs.laws.samples_are_programs.Goals as goal

pub returns : goal.returns
returns c = sample_is_eir
