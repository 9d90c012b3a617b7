use Rattle.c_worlds.proofs.Actions.{actions_stay_valid as law}
use Rattle.c_worlds.proofs.laws.actions_stay_valid.Goals as goal

pub returns : goal.returns
returns c = law
