use Rattle.bf_back.proofs.Short.{own_short}
use Rattle.bf_back.proofs.laws.own_texts_are_short.Goals as goal

pub returns : goal.returns
returns c = own_short
