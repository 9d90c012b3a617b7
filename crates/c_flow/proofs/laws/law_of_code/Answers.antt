use Rattle.c_flow.proofs.Whole.{law_of_code as law}
use Rattle.c_flow.proofs.laws.law_of_code.Goals as goal

pub returns : goal.returns
returns c = law
