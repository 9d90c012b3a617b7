use Rattle.bf_ops.proofs.Kept.{comparisons, in_place}
use Rattle.bf_ops.proofs.laws.comparisons_are_judged.Goals as goal

pub returns : goal.returns
returns c = record { made = λ t x y. comparisons t x y; in_place = λ t x y. in_place t x y }
