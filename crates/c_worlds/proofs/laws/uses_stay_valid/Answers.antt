use Rattle.c_worlds.proofs.Uses.{uses_stay_valid as law}
use Rattle.c_worlds.proofs.laws.uses_stay_valid.Goals as goal

pub returns : goal.returns
returns c = law
