use Rattle.c_products.proofs.BitsWhole.{left_law as law}
use Rattle.c_products.proofs.laws.shifts_left_are_computed.Goals as goal

pub returns : goal.returns
returns c = law
