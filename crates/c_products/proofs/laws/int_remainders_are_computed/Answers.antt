use Rattle.c_products.proofs.Whole.{int_remainders_law as law}
use Rattle.c_products.proofs.laws.int_remainders_are_computed.Goals as goal

pub returns : goal.returns
returns c = law
