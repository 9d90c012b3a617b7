use Rattle.c_laid.proofs.Data.{first_memories_mean as law}
use Rattle.c_laid.proofs.laws.first_memories_mean.Goals as goal

pub returns : goal.returns
returns c = law
