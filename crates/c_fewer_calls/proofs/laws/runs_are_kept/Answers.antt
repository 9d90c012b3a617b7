use Rattle.c_fewer_calls.proofs.Calls.{runs_are_kept as law}
use Rattle.c_fewer_calls.proofs.laws.runs_are_kept.Goals as goal

pub returns : goal.returns
returns c = law
