use Rattle.c_prep.proofs.Hiding.{hidden_names_stay}
use Rattle.c_prep.proofs.laws.hidden_names_stay.Goals as goal

pub returns : goal.returns
returns c = hidden_names_stay
