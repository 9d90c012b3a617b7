use Rattle.std.proofs.Common.{ap}
use Rattle.bf_turn.proofs.Armed.{is_end}
use Rattle.bf_turn.proofs.arms.end.Goals as goal

pub returns-clause-effect : goal.returns-clause-effect
returns-clause-effect c = is_end c.new-arm.ensures (ap (λ p. p.cell) c.in_ok-add_const.ensures.code) c.in_ok-add_const.ensures.effect
