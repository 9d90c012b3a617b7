use Rattle.c_fewer_items.proofs.Walk.{firsts_are_typed as law}
use Rattle.c_fewer_items.proofs.laws.firsts_are_typed.Goals as goal

pub returns : goal.returns
returns c = law
