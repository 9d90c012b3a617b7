use Rattle.c_compiled.proofs.Stand.{desugared_texts_stand as law}
use Rattle.c_compiled.proofs.laws.desugared_texts_stand.Goals as goal

pub returns : goal.returns
returns c = law
