use Rattle.c_fewer_types.proofs.FewerKept.{literals_are_kept as law}
use Rattle.c_fewer_types.proofs.laws.literals_are_kept.Goals as goal

pub returns : goal.returns
returns c = law
