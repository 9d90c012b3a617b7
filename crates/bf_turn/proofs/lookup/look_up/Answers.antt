use Rattle.std.proofs.Common.{ap}
use Rattle.bf_turn.proofs.Counts.{looks_up}
use Rattle.bf_turn.proofs.Coded.{look_coded}
use Rattle.bf_turn.proofs.lookup.look_up.Goals as goal

pub returns-clause-code : goal.returns-clause-code
returns-clause-code c = look_coded c.args.f.now c.args.digits c.args.numbers.now c.begin-body.ensures c.in_ok-count.ensures.code c.in_ok-clear_word.ensures.code c.in_ok-goto.ensures.code c.in_ok-times.ensures.code

pub returns-clause-effect : goal.returns-clause-effect
returns-clause-effect c =
    looks_up c.args.digits c.requires.digits c.args.numbers.now c.begin-body.ensures (ap (λ p. p.cell) c.in_ok-goto.ensures.code) c.in_ok-count.ensures.effect c.in_ok-clear_word.ensures.effect c.in_ok-goto.ensures.effect c.in_ok-times.ensures.effect
