use Rattle.c_place.proofs.Running.{others}
use Rattle.c_place.proofs.laws.operations_run.Goals as goal

pub returns : goal.returns
returns c = λ p input s m taken output. others p input s m taken output
