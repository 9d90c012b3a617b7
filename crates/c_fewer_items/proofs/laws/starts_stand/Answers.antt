use Rattle.c_fewer_items.proofs.Starts.{starts_stand as law}
use Rattle.c_fewer_items.proofs.laws.starts_stand.Goals as goal

pub returns : goal.returns
returns c = law
