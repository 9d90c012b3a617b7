use Rattle.bf_choice.proofs.Aimed.{digits_are}
use Rattle.bf_choice.proofs.laws.digits_are_a_numbers.Goals as goal

pub returns : goal.returns
returns c = digits_are
