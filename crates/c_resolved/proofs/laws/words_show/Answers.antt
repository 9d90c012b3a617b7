use Rattle.c_resolved.proofs.Meant.{words as law}
use Rattle.c_resolved.proofs.laws.words_show.Goals as goal

pub returns : goal.returns
returns c = law
