use Rattle.c_fewer_reached.proofs.Spelled.{expressions_update as law}
use Rattle.c_fewer_reached.proofs.laws.expressions_update.Goals as goal

pub returns : goal.returns
returns c = law
