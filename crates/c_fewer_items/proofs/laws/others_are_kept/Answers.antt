use Rattle.c_fewer_items.proofs.FewerFrontsProofs.{others_are_kept as law}
use Rattle.c_fewer_items.proofs.laws.others_are_kept.Goals as goal

pub returns : goal.returns
returns c = law
