use Rattle.std.proofs.Common.{refl}
use Rattle.c_weights.specs.declared.sum.Sum.{Sum}
use Rattle.c_census.proofs.MemberLemmas.{declared_sums}
use Rattle.c_census.proofs.members.declared_sum.Goals as goal

pub returns : goal.returns
returns c = λ p tags h all.
    let r : Sum = record { weight = c.of.result; is_wide = c.is_wide.result; nodes = 0; words = 0 } in
    declared_sums r tags p c.of.ensures (c.is_wide.ensures p tags h all) refl refl
