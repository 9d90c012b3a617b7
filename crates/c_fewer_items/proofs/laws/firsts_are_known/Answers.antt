use Rattle.c_fewer_items.proofs.Walk.{firsts_are_known as law}
use Rattle.c_fewer_items.proofs.laws.firsts_are_known.Goals as goal

pub returns : goal.returns
returns c = law
