use Rattle.c_fewer_values.proofs.Steps.{wide_steps_are_taken as law}
use Rattle.c_fewer_values.proofs.laws.wide_steps_are_taken.Goals as goal

pub returns : goal.returns
returns c = law
