use Rattle.eir_opt.proofs.FoldedRuns.{folding_keeps_steps}
use Rattle.eir_opt.proofs.laws.folding_keeps_steps.Goals as goal

pub returns : goal.returns
returns c = folding_keeps_steps
