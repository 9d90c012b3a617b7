use Rattle.eir_opt.proofs.Drops.{overwritten_not_read}
use Rattle.eir_opt.proofs.laws.overwritten_registers_are_not_read.Goals as goal

pub returns : goal.returns
returns c = overwritten_not_read
