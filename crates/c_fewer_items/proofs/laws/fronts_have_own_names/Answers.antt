use Rattle.c_fewer_items.proofs.Joined.{fronts_have_own_names as law}
use Rattle.c_fewer_items.proofs.laws.fronts_have_own_names.Goals as goal

pub returns : goal.returns
returns c = law
