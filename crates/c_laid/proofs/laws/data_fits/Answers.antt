use Rattle.c_laid.proofs.Fits.{data_fits as law}
use Rattle.c_laid.proofs.laws.data_fits.Goals as goal

pub returns : goal.returns
returns c = law
