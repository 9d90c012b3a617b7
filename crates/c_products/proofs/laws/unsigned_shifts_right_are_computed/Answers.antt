use Rattle.c_products.proofs.BitsWhole.{right_law as law}
use Rattle.c_products.proofs.laws.unsigned_shifts_right_are_computed.Goals as goal

pub returns : goal.returns
returns c = law
