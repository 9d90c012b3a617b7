use Rattle.c_rule.proofs.Fits.{faults_of_texts_are_silent as law}
use Rattle.c_rule.proofs.laws.faults_of_texts_are_silent.Goals as goal

pub returns : goal.returns
returns c = law
