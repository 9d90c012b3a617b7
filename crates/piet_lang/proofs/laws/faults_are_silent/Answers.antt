use Rattle.piet_lang.proofs.Silent.{silent}
use Rattle.piet_lang.proofs.laws.faults_are_silent.Goals as goal

pub returns : goal.returns
returns c = λ f atlas. silent f atlas
