use Rattle.c_routines.proofs.Numerals.{numerals}
use Rattle.c_routines.proofs.laws.numeral_lands.Goals as goal

pub returns : goal.returns
returns c = numerals
