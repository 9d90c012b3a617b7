use Rattle.eir_opt.proofs.Drops.{last_kept}
use Rattle.eir_opt.proofs.laws.last_operations_are_kept.Goals as goal

pub returns : goal.returns
returns c = last_kept
