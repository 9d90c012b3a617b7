use Rattle.c_lowered.proofs.Closing.{code_closes}
use Rattle.c_lowered.proofs.laws.code_is_closed.Goals as goal

pub returns : goal.returns
returns c = code_closes
