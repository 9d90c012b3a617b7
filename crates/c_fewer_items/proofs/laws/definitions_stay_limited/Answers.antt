use Rattle.c_fewer_items.proofs.Statements.{definitions_stay_limited as law}
use Rattle.c_fewer_items.proofs.laws.definitions_stay_limited.Goals as goal

pub returns : goal.returns
returns c = law
