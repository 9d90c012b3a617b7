use Rattle.c_fewer_items.proofs.Joined.{fronts_have_no_objects as law}
use Rattle.c_fewer_items.proofs.laws.fronts_have_no_objects.Goals as goal

pub returns : goal.returns
returns c = law
