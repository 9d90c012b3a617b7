use Rattle.c_products.proofs.CompoundsWhole.{unsigned_quotients_are_assigned as law}
use Rattle.c_products.proofs.laws.unsigned_quotients_are_assigned.Goals as goal

pub returns : goal.returns
returns c = law
