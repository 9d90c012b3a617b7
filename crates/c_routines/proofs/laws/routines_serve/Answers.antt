use Rattle.c_routines.proofs.Serving.{routines_serve}
use Rattle.c_routines.proofs.laws.routines_serve.Goals as goal

pub returns : goal.returns
returns c = routines_serve
