use Rattle.c_fewer_items.proofs.Fronts.{fronts_are_limited as law}
use Rattle.c_fewer_items.proofs.laws.fronts_are_limited.Goals as goal

pub returns : goal.returns
returns c = law
