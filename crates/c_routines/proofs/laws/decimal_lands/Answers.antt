use Rattle.c_routines.proofs.Decimals.{decimals}
use Rattle.c_routines.proofs.laws.decimal_lands.Goals as goal

pub returns : goal.returns
returns c = decimals
