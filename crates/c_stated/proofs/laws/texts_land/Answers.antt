use Rattle.c_stated.proofs.Texts.{text_stated}
use Rattle.c_stated.proofs.laws.texts_land.Goals as goal

pub returns : goal.returns
returns c = λ S w u worth_one may t site agrees unit land h le. text_stated S w agrees u may land worth_one unit t site h le
