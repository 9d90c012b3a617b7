use Rattle.sq_lang.proofs.Silent.{silent}
use Rattle.sq_lang.proofs.laws.faults_are_silent.Goals as goal

pub returns : goal.returns
returns c = silent
