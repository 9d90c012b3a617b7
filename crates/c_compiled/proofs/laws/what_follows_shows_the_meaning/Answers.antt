use Rattle.c_compiled.proofs.Built.{shows_the_meaning}
use Rattle.c_compiled.proofs.laws.what_follows_shows_the_meaning.Goals as goal

pub returns : goal.returns
returns g c = shows_the_meaning
