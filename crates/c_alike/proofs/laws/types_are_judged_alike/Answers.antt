use Rattle.c_alike.proofs.Judged.{types_are_judged_alike as law}
use Rattle.c_alike.proofs.laws.types_are_judged_alike.Goals as goal

pub returns : goal.returns
returns c = law
