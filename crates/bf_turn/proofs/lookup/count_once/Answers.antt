use Rattle.std.proofs.Common.{ap}
use Rattle.bf_turn.proofs.Counts.{around, once_adds}
use Rattle.bf_turn.proofs.Coded.{find_coded}
use Rattle.bf_turn.proofs.lookup.count_once.Goals as goal

pub returns-clause-code : goal.returns-clause-code
returns-clause-code c = find_coded c.args.f.now c.args.digits c.args.number c.in_ok-lower_once.ensures.code c.begin-body.ensures c.in_ok-aim.ensures.code c.in_ok-goto.ensures.code c.in_ok-times.ensures.code

pub returns-clause-effect : goal.returns-clause-effect
returns-clause-effect c =
    let body = around 123 c.begin-body.ensures (ap (λ p. p.cell) c.in_ok-goto.ensures.code) c.in_ok-aim.ensures.effect c.in_ok-goto.ensures.effect in
    once_adds c.args.digits c.args.number c.requires c.in_ok-lower_once.ensures.effect c.in_ok-times.ensures.effect (ap (λ p. p.cell) c.in_ok-times.ensures.code) body.0 body.1
