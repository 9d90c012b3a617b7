use Rattle.c_products.proofs.Whole.{products_law as law}
use Rattle.c_products.proofs.laws.products_are_computed.Goals as goal

pub returns : goal.returns
returns c = law
