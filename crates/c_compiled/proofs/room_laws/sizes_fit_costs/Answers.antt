use Rattle.c_compiled.proofs.SizesWhole.{sizes_fit_costs as law}
use Rattle.c_compiled.proofs.room_laws.sizes_fit_costs.Goals as goal

pub returns : goal.returns
returns c = law
