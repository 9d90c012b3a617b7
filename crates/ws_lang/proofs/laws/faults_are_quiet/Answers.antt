use Rattle.ws_lang.proofs.SilenceLemmas.{faults_are_quiet}
use Rattle.ws_lang.proofs.laws.faults_are_quiet.Goals as goal

pub returns : goal.returns
returns c = faults_are_quiet
