use Rattle.c_worlds.proofs.Silent.{operators_are_silent as law}
use Rattle.c_worlds.proofs.laws.operators_are_silent.Goals as goal

pub returns : goal.returns
returns c = law
