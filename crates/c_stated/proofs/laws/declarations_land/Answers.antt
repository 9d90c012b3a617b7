use Rattle.c_stated.proofs.Firsts.{declared}
use Rattle.c_stated.proofs.laws.declarations_land.Goals as goal

pub returns : goal.returns
returns c = λ S w u d site agrees valued. declared S w agrees u d site valued
