use Rattle.c_types.proofs.TypeLemmas.{equal_types}
use Rattle.c_types.proofs.laws.equal_types_are_one.Goals as goal

pub returns : goal.returns
returns c = equal_types
