use Rattle.c_products.proofs.CompoundsWhole.{int_shifts_right_are_assigned as law}
use Rattle.c_products.proofs.laws.int_shifts_right_are_assigned.Goals as goal

pub returns : goal.returns
returns c = law
