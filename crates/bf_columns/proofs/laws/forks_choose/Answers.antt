use Rattle.bf_columns.proofs.Forked.{forks_choose}
use Rattle.bf_columns.proofs.laws.forks_choose.Goals as goal

pub returns : goal.returns
returns c = forks_choose
