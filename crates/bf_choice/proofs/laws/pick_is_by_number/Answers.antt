use Rattle.bf_choice.proofs.Chosen.{pick_is}
use Rattle.bf_choice.proofs.laws.pick_is_by_number.Goals as goal

pub returns : goal.returns
returns c = pick_is
