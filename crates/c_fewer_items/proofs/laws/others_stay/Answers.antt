use Rattle.c_fewer_items.proofs.Walk.{others_stay as law}
use Rattle.c_fewer_items.proofs.laws.others_stay.Goals as goal

pub returns : goal.returns
returns c = law
