use Rattle.bf_choice.proofs.Aimed.{aim_is_next}
use Rattle.bf_choice.proofs.laws.aim_is_the_next_choice.Goals as goal

pub returns : goal.returns
returns c = aim_is_next
