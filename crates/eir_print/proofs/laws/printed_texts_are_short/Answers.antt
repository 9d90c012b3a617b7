use Rattle.eir_print.proofs.Short.{printed_short}
use Rattle.eir_print.proofs.laws.printed_texts_are_short.Goals as goal

pub returns : goal.returns
returns c = printed_short
