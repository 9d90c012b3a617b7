use Rattle.c_rates.proofs.Paid.{units_pay as law}
use Rattle.c_rates.proofs.laws.units_pay.Goals as goal

pub returns : goal.returns
returns c = law
