use Rattle.c_products.proofs.BitsWhole.{or_law as law}
use Rattle.c_products.proofs.laws.bits_or_is_computed.Goals as goal

pub returns : goal.returns
returns c = law
