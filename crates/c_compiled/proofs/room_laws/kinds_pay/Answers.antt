use Rattle.c_compiled.proofs.HelperCostsSums.{kinds_pay as law}
use Rattle.c_compiled.proofs.room_laws.kinds_pay.Goals as goal

pub returns : goal.returns
returns c = law
