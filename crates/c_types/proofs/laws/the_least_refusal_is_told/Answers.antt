use Rattle.c_types.proofs.RefusalLemmas.{least_is_first}
use Rattle.c_types.proofs.laws.the_least_refusal_is_told.Goals as goal

pub returns : goal.returns
returns c = least_is_first
