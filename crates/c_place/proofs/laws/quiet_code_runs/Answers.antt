use Rattle.c_place.proofs.Running.{all_quiet}
use Rattle.c_place.proofs.laws.quiet_code_runs.Goals as goal

pub returns : goal.returns
returns c = λ p input s m taken output ops q h. all_quiet p input s m taken output ops q h
