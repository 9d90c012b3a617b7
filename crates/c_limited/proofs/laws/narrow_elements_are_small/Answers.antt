use Rattle.c_limited.proofs.Narrow.{narrow_elements_are_small as law}
use Rattle.c_limited.proofs.laws.narrow_elements_are_small.Goals as goal

pub returns : goal.returns
returns c = law
