use Rattle.c_fewer_items.proofs.Distinct.{formats_are_distinct as law}
use Rattle.c_fewer_items.proofs.laws.formats_are_distinct.Goals as goal

pub returns : goal.returns
returns c = law
