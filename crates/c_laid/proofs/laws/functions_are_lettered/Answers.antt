use Rattle.c_laid.proofs.Functions.{functions_are_lettered as law}
use Rattle.c_laid.proofs.laws.functions_are_lettered.Goals as goal

pub returns : goal.returns
returns c = law
