use Rattle.c_worlds.proofs.Walk.{statements_go_alike as law}
use Rattle.c_worlds.proofs.laws.statements_go_alike.Goals as goal

pub returns : goal.returns
returns c = law
