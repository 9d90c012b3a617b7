use Rattle.c_products.proofs.CompoundsWhole.{bits_and_is_assigned as law}
use Rattle.c_products.proofs.laws.bits_and_is_assigned.Goals as goal

pub returns : goal.returns
returns c = law
