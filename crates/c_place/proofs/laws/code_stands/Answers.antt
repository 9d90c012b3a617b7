use Rattle.c_place.proofs.CutLemmas.{stands}
use Rattle.c_place.proofs.laws.code_stands.Goals as goal

pub returns : goal.returns
returns c = stands
