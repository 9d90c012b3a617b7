use Rattle.c_valued.proofs.Still.{value_still, place_still}
use Rattle.c_valued.proofs.laws.quiet_keeps_state.Goals as goal

pub returns : goal.returns
returns c = record { value = λ e w here st h. (value_still e w here h).at st; place = λ e w here st h. (place_still e w here h).at st }
