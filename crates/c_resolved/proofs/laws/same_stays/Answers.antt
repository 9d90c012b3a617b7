use Rattle.c_resolved.proofs.Likeness.{stays}
use Rattle.c_resolved.proofs.laws.same_stays.Goals as goal

pub returns : goal.returns
returns c = λ t lengths more v w s. stays t lengths more s
