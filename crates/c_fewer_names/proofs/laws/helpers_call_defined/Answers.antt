use Rattle.c_fewer_names.proofs.Whole.{helpers_call_defined as law}
use Rattle.c_fewer_names.proofs.laws.helpers_call_defined.Goals as goal

pub returns : goal.returns
returns c = law
