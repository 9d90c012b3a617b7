use Rattle.c_fewer_names.proofs.Whole.{items_are_fit as law}
use Rattle.c_fewer_names.proofs.laws.items_are_fit.Goals as goal

pub returns : goal.returns
returns c = law
