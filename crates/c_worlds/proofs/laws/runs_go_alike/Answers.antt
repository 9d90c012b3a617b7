use Rattle.c_worlds.proofs.Walk.{runs_go_alike as law}
use Rattle.c_worlds.proofs.laws.runs_go_alike.Goals as goal

pub returns : goal.returns
returns c = law
