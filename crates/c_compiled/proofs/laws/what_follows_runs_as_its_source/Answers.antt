use Rattle.c_compiled.proofs.Moments.{runs_as_its_source}
use Rattle.c_compiled.proofs.laws.what_follows_runs_as_its_source.Goals as goal

pub returns : goal.returns
returns g c = runs_as_its_source
