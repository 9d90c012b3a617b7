use Rattle.c_followed.proofs.Faithful.{lowered_faithfully}
use Rattle.c_followed.proofs.laws.texts_are_lowered.Goals as goal

pub returns : goal.returns
returns c = λ u h input n called is fuel. lowered_faithfully u h input n called is fuel
