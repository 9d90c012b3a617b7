use Rattle.c_products.proofs.MovesWhole.{swapped_sums_are_computed as law}
use Rattle.c_products.proofs.laws.swapped_sums_are_computed.Goals as goal

pub returns : goal.returns
returns c = law
