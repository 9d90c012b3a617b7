use Rattle.c_routines.proofs.Cutting.{linked_stands}
use Rattle.c_routines.proofs.laws.linked_code_stands.Goals as goal

pub returns : goal.returns
returns c = linked_stands
