use Rattle.c_fewer_items.proofs.Whole.{helpers_are_typed as law}
use Rattle.c_fewer_items.proofs.laws.helpers_are_typed.Goals as goal

pub returns : goal.returns
returns c = law
