use Rattle.c_products.proofs.MovesWhole.{differences_are_computed as law}
use Rattle.c_products.proofs.laws.differences_are_computed.Goals as goal

pub returns : goal.returns
returns c = law
