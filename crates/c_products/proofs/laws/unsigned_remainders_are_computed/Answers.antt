use Rattle.c_products.proofs.Whole.{unsigned_remainders_law as law}
use Rattle.c_products.proofs.laws.unsigned_remainders_are_computed.Goals as goal

pub returns : goal.returns
returns c = law
