use Rattle.c_followed.proofs.Bodies.{body_lands}
use Rattle.c_followed.proofs.laws.bodies_land.Goals as goal

pub returns : goal.returns
returns c = λ S w u worth_one may f k frame agrees unit land is small stands. body_lands S w u worth_one may f k frame agrees unit land is small stands
