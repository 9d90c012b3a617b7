use Rattle.c_eval.proofs.Wholes.{going_is_out_of_fuel as law}
use Rattle.c_eval.proofs.laws.going_is_out_of_fuel.Goals as goal

pub returns : goal.returns
returns c = law
