use Rattle.c_limited.proofs.Narrow.{operands_are_narrow as law}
use Rattle.c_limited.proofs.laws.operands_are_narrow.Goals as goal

pub returns : goal.returns
returns c = law
