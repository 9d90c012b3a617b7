use Rattle.c_compiled.proofs.Moments.{ends_in_time}
use Rattle.c_compiled.proofs.laws.what_follows_ends_in_time.Goals as goal

pub returns : goal.returns
returns g c = ends_in_time
