use Rattle.c_prep.proofs.Hiding.{kept_names_are_replaced}
use Rattle.c_prep.proofs.laws.kept_names_are_replaced.Goals as goal

pub returns : goal.returns
returns c = kept_names_are_replaced
