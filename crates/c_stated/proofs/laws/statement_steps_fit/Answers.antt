use Rattle.c_stated.proofs.Costs.{stmt_fits}
use Rattle.c_stated.proofs.laws.statement_steps_fit.Goals as goal

pub returns : goal.returns
returns c = λ t site. stmt_fits t site
