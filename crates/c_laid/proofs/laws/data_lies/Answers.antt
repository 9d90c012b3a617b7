use Rattle.c_laid.proofs.First.{data_lies}
use Rattle.c_laid.proofs.laws.data_lies.Goals as goal

pub returns : goal.returns
returns c = λ u is. data_lies u is
