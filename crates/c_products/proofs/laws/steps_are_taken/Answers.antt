use Rattle.c_products.proofs.MovesWhole.{steps_are_taken as law}
use Rattle.c_products.proofs.laws.steps_are_taken.Goals as goal

pub returns : goal.returns
returns c = law
