use Rattle.c_products.proofs.MovesWhole.{pointers_are_moved as law}
use Rattle.c_products.proofs.laws.pointers_are_moved.Goals as goal

pub returns : goal.returns
returns c = law
