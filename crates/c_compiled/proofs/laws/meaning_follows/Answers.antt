use Rattle.c_compiled.proofs.MeaningKeptWhole.{meaning_follows as law}
use Rattle.c_compiled.proofs.laws.meaning_follows.Goals as goal

pub returns : goal.returns
returns c = law
