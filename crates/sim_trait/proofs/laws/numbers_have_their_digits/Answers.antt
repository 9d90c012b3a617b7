use Rattle.sim_trait.proofs.Digits.{digit_count-digits}
use Rattle.sim_trait.proofs.laws.numbers_have_their_digits.Goals as goal

pub returns : goal.returns
returns c = digit_count-digits
