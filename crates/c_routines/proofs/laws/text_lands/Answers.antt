use Rattle.c_routines.proofs.Texts.{texts}
use Rattle.c_routines.proofs.laws.text_lands.Goals as goal

pub returns : goal.returns
returns c = texts
