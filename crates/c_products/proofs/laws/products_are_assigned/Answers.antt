use Rattle.c_products.proofs.CompoundsWhole.{products_are_assigned as law}
use Rattle.c_products.proofs.laws.products_are_assigned.Goals as goal

pub returns : goal.returns
returns c = law
