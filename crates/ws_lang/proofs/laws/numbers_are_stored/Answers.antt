use Rattle.ws_lang.proofs.ReadNumbers.{number_is_stored}
use Rattle.ws_lang.proofs.laws.numbers_are_stored.Goals as goal

pub returns : goal.returns
returns c = number_is_stored
