use Rattle.c_valued.proofs.Truths.{values}
use Rattle.c_valued.proofs.laws.call_free_expressions_land.Goals as goal

pub returns : goal.returns
returns c = λ S w u e site agrees free few ls. values S w agrees u e site free few ls
