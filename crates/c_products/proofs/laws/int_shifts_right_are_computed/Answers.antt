use Rattle.c_products.proofs.BitsWhole.{int_right_law as law}
use Rattle.c_products.proofs.laws.int_shifts_right_are_computed.Goals as goal

pub returns : goal.returns
returns c = law
