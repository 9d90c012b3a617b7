use Rattle.c_fewer_calls.proofs.Helps.{helpers_do as law}
use Rattle.c_fewer_calls.proofs.laws.helpers_do.Goals as goal

pub returns : goal.returns
returns c = law
