use Rattle.c_products.proofs.CompoundsWhole.{int_quotients_are_assigned as law}
use Rattle.c_products.proofs.laws.int_quotients_are_assigned.Goals as goal

pub returns : goal.returns
returns c = law
