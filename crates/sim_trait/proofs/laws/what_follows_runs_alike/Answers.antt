use Rattle.sim_trait.proofs.Consequence.{followed_run}
use Rattle.sim_trait.proofs.laws.what_follows_runs_alike.Goals as goal

pub returns : goal.returns
returns g c = followed_run
