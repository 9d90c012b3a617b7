use Rattle.c_fewer_items.proofs.FewerFrontsProofs.{fronts_are_typed as law}
use Rattle.c_fewer_items.proofs.laws.fronts_are_typed.Goals as goal

pub returns : goal.returns
returns c = law
