use Rattle.c_fewer_items.proofs.Joined.{definitions_are_joined as law}
use Rattle.c_fewer_items.proofs.laws.definitions_are_joined.Goals as goal

pub returns : goal.returns
returns c = law
