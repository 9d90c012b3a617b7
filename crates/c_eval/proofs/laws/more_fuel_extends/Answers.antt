use Rattle.c_eval.proofs.Wholes.{more_fuel_extends as law}
use Rattle.c_eval.proofs.laws.more_fuel_extends.Goals as goal

pub returns : goal.returns
returns c = law
