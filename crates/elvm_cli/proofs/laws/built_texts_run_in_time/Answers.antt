use Rattle.elvm_cli.proofs.InTime.{runs_in_time}
use Rattle.elvm_cli.proofs.laws.built_texts_run_in_time.Goals as goal

pub returns : goal.returns
returns c = runs_in_time
