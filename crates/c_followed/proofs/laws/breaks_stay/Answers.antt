use Rattle.c_followed.proofs.Staying.{stays}
use Rattle.c_followed.proofs.laws.breaks_stay.Goals as goal

pub returns : goal.returns
returns c = λ b k t h deep w here st. stays b k t h deep w here st
