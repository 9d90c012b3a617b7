use Rattle.c_fitting.proofs.Texts.{texts_stay_in_blocks as law}
use Rattle.c_fitting.proofs.laws.texts_stay_in_blocks.Goals as goal

pub returns : goal.returns
returns c = law
