use Rattle.ws_lang.proofs.ValuesInRange.{values_stay_in_range}
use Rattle.ws_lang.proofs.laws.values_stay_in_range.Goals as goal

pub returns : goal.returns
returns c = values_stay_in_range
