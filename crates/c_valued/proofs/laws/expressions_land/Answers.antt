use Rattle.c_valued.proofs.Values.{values}
use Rattle.c_valued.proofs.laws.expressions_land.Goals as goal

pub returns : goal.returns
returns c = λ S w u may e site agrees land calls few ls. values S w agrees u may land e site calls few ls
