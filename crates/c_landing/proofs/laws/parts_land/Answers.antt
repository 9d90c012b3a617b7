use Rattle.c_landing.proofs.Landing.{then_lands}
use Rattle.c_landing.proofs.laws.parts_land.Goals as goal

pub returns : goal.returns
returns c = λ S one two block d n c1 c2 first second l g. then_lands l g
