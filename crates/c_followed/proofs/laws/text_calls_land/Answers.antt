use Rattle.c_followed.proofs.Calls.{text_calls}
use Rattle.c_followed.proofs.laws.text_calls_land.Goals as goal

pub returns : goal.returns
returns c = λ S t rules first u worth_one may unit fit can text uses deep roof name f is. text_calls S t rules first u worth_one may unit fit can text uses deep roof name f is
