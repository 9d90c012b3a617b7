use Rattle.eir_print.proofs.RoundTrip.{printed_spells}
use Rattle.eir_print.proofs.laws.printed_texts_spell.Goals as goal

pub returns : goal.returns
returns c = printed_spells
