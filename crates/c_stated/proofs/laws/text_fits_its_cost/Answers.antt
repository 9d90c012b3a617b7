use Rattle.c_stated.proofs.CostsTexts.{text_fits}
use Rattle.c_stated.proofs.laws.text_fits_its_cost.Goals as goal

pub returns : goal.returns
returns c = text_fits
