use Rattle.sq_lang.proofs.Decided.{texts_are_decided}
use Rattle.sq_lang.proofs.laws.texts_are_decided.Goals as goal

pub returns : goal.returns
returns c = texts_are_decided
