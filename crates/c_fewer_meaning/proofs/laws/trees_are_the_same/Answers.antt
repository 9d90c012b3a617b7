use Rattle.c_fewer_meaning.proofs.Trees.{trees_are_the_same as law}
use Rattle.c_fewer_meaning.proofs.laws.trees_are_the_same.Goals as goal

pub returns : goal.returns
returns c = law
