use Rattle.c_fewer_types.proofs.AsGoodRules.{rules_take_as_good as law}
use Rattle.c_fewer_types.proofs.laws.rules_take_as_good.Goals as goal

pub returns : goal.returns
returns c = law
