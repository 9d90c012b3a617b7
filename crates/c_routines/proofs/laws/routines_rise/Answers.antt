use Rattle.c_routines.proofs.Rising.{routines_rise}
use Rattle.c_routines.proofs.laws.routines_rise.Goals as goal

pub returns : goal.returns
returns c = routines_rise
