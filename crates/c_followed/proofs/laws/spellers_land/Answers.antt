use Rattle.c_followed.proofs.Spellers.{speller_lands}
use Rattle.c_followed.proofs.laws.spellers_land.Goals as goal

pub returns : goal.returns
returns c = λ S t h rate spare_rate may can stand known name f is agrees there first bottom top deep roof linking coded named own. speller_lands S t h rate spare_rate may can stand known name f is agrees there own first bottom top deep roof linking coded named
