use Rattle.c_products.proofs.BitsWhole.{and_law as law}
use Rattle.c_products.proofs.laws.bits_and_is_computed.Goals as goal

pub returns : goal.returns
returns c = law
