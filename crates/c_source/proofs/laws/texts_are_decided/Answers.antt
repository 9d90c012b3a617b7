use Rattle.c_source.proofs.Decided.{decided}
use Rattle.c_source.proofs.laws.texts_are_decided.Goals as goal

pub returns : goal.returns
returns c = decided
