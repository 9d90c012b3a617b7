use Rattle.c_resolved.proofs.Pointing.{orders_show as law}
use Rattle.c_resolved.proofs.laws.orders_show.Goals as goal

pub returns : goal.returns
returns c = law
