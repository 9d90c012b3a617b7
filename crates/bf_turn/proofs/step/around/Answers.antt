use Rattle.std.proofs.Common.{ap, ◌∙◌}
use Rattle.bf_tape.specs.Piece.{joined}
use Rattle.bf_turn.proofs.Turned.{turns_by}
use Rattle.bf_turn.proofs.Coded.{around_coded}
use Rattle.bf_turn.proofs.step.around.Goals as goal

pub returns-clause-code : goal.returns-clause-code
returns-clause-code c =
    around_coded c.args.digits c.args.numbers.now c.args.accesses c.args.tree.now.commands c.new-body.ensures (c.in_ok-join.ensures.ok ∙ ap (λ xs. joined c.new-body.result xs 0) c.commands.ensures.commands) c.in_ok-serve_asked.ensures.code c.in_ok-look_up.ensures.code c.in_ok-advance.ensures.code
    c.in_ok-goto.ensures.code

pub returns-clause-turn : goal.returns-clause-turn
returns-clause-turn c =
    turns_by c.args.tree.now.commands c.args.digits c.args.numbers.now c.args.accesses c.requires.digits c.new-body.ensures (c.in_ok-join.ensures.ok ∙ ap (λ xs. joined c.new-body.result xs 0) c.commands.ensures.commands) c.in_ok-serve_asked.ensures.code c.in_ok-serve_asked.ensures.effect c.in_ok-look_up.ensures.cell c.in_ok-look_up.ensures.effect c.in_ok-advance.ensures.effect c.in_ok-goto.ensures.effect (ap (λ p. p.cell) c.in_ok-goto.ensures.code)
