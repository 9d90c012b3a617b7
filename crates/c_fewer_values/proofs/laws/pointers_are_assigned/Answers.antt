use Rattle.c_fewer_values.proofs.Moves.{pointers_are_assigned as law}
use Rattle.c_fewer_values.proofs.laws.pointers_are_assigned.Goals as goal

pub returns : goal.returns
returns c = law
