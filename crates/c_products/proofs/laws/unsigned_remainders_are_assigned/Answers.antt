use Rattle.c_products.proofs.CompoundsWhole.{unsigned_remainders_are_assigned as law}
use Rattle.c_products.proofs.laws.unsigned_remainders_are_assigned.Goals as goal

pub returns : goal.returns
returns c = law
