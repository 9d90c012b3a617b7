use Rattle.c_resolved.proofs.Likeness.{pointers}
use Rattle.c_resolved.proofs.laws.pointers_show.Goals as goal

pub returns : goal.returns
returns c = λ t lengths v w s. pointers t lengths s
