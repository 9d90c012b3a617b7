use Rattle.c_laid.proofs.Placed.{laid}
use Rattle.c_laid.proofs.laws.code_is_laid.Goals as goal

pub returns : goal.returns
returns c = λ u. laid u
