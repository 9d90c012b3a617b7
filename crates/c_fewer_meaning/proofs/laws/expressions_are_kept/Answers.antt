use Rattle.c_fewer_meaning.proofs.Kept.{expressions_are_kept as law}
use Rattle.c_fewer_meaning.proofs.laws.expressions_are_kept.Goals as goal

pub returns : goal.returns
returns c = law
