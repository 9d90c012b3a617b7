use Rattle.c_rates.proofs.Paid.{rates_fit as law}
use Rattle.c_rates.proofs.laws.rates_fit.Goals as goal

pub returns : goal.returns
returns c = law
