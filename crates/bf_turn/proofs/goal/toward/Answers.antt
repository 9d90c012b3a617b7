use Rattle.std.proofs.Common.{ap}
use Rattle.bf_turn.proofs.Goals.{heads}
use Rattle.bf_turn.proofs.Coded.{toward_coded}
use Rattle.bf_turn.proofs.goal.toward.Goals as goal

pub returns-clause-code : goal.returns-clause-code
returns-clause-code c = toward_coded c.args.digits c.args.goal c.new-piece.ensures c.in_ok-aim_at.ensures.code c.in_ok-goto.ensures.code

pub returns-clause-heads : goal.returns-clause-heads
returns-clause-heads c = heads c.args.digits c.args.goal c.new-piece.ensures (ap (λ p. p.cell) c.in_ok-goto.ensures.code) c.in_ok-aim_at.ensures.effect c.in_ok-goto.ensures.effect
