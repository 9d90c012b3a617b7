use Rattle.c_alike.proofs.Judged.{expressions_are_judged_alike as law}
use Rattle.c_alike.proofs.laws.expressions_are_judged_alike.Goals as goal

pub returns : goal.returns
returns c = law
