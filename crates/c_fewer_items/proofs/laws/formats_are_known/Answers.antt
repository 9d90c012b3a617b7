use Rattle.c_fewer_items.proofs.FewerFrontsProofs.{formats_are_known as law}
use Rattle.c_fewer_items.proofs.laws.formats_are_known.Goals as goal

pub returns : goal.returns
returns c = law
