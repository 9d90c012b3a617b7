use Rattle.c_valued.proofs.Costing.{steps_fit, truth_fits}
use Rattle.c_valued.proofs.laws.steps_fit_the_cost.Goals as goal

pub returns : goal.returns
returns c = record { value = steps_fit; condition = truth_fits }
