use Rattle.c_compiled.proofs.HelperCostsWhole.{kept_helpers_fit as law}
use Rattle.c_compiled.proofs.room_laws.kept_helpers_fit.Goals as goal

pub returns : goal.returns
returns c = law
