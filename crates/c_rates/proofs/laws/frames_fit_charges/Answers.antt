use Rattle.c_rates.proofs.Charges.{frames_fit_charges as law}
use Rattle.c_rates.proofs.laws.frames_fit_charges.Goals as goal

pub returns : goal.returns
returns c = law
