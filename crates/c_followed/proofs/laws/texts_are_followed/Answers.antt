use Rattle.c_followed.proofs.Whole.{faithful}
use Rattle.c_followed.proofs.laws.texts_are_followed.Goals as goal

pub returns : goal.returns
returns c = λ S t rules first u rate fuel may some fit can text uses opens. faithful S t rules first u rate fuel may some fit can text uses opens
