use Rattle.c_products.proofs.BitsWhole.{complements_law as law}
use Rattle.c_products.proofs.laws.complements_are_computed.Goals as goal

pub returns : goal.returns
returns c = law
