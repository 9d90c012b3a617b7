use Rattle.c_compiled.proofs.Stand.{desugaring_keeps_meaning as law}
use Rattle.c_compiled.proofs.laws.desugaring_keeps_meaning.Goals as goal

pub returns : goal.returns
returns c = law
