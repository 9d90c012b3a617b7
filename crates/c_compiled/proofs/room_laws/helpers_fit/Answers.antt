use Rattle.c_compiled.proofs.HelperCostsWhole.{helpers_fit as law}
use Rattle.c_compiled.proofs.room_laws.helpers_fit.Goals as goal

pub returns : goal.returns
returns c = law
