use Rattle.c_products.proofs.BitsWhole.{xor_law as law}
use Rattle.c_products.proofs.laws.bits_xor_is_computed.Goals as goal

pub returns : goal.returns
returns c = law
