use Rattle.c_products.proofs.CompoundsWhole.{shifts_left_are_assigned as law}
use Rattle.c_products.proofs.laws.shifts_left_are_assigned.Goals as goal

pub returns : goal.returns
returns c = law
