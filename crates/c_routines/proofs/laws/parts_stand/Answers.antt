use Rattle.c_routines.proofs.Parts.{parts}
use Rattle.c_routines.proofs.laws.parts_stand.Goals as goal

pub returns : goal.returns
returns c = parts
