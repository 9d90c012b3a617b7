use Rattle.std.proofs.Common.{ap, ◌∙◌}
use Rattle.bf_tape.specs.Piece.{joined}
use Rattle.bf_turn.proofs.Turned.{decided_by}
use Rattle.bf_turn.proofs.Coded.{decided_coded}
use Rattle.bf_turn.proofs.step.decided.Goals as goal

pub returns-clause-code : goal.returns-clause-code
returns-clause-code c =
    decided_coded c.args.digits c.args.branches c.args.tree.now.commands c.begin-piece.ensures (c.in_ok-join.ensures.ok ∙ ap (λ xs. joined c.begin-piece.result xs 0) c.commands.ensures.commands) c.in_ok-decide_asked.ensures.code c.in_ok-goto.ensures.code

pub returns-clause-effect : goal.returns-clause-effect
returns-clause-effect c =
    decided_by c.args.tree.now.commands c.args.digits c.args.branches c.requires c.begin-piece.ensures (c.in_ok-join.ensures.ok ∙ ap (λ xs. joined c.begin-piece.result xs 0) c.commands.ensures.commands) c.in_ok-decide_asked.ensures.code c.in_ok-decide_asked.ensures.effect c.in_ok-goto.ensures.effect (ap (λ p. p.cell) c.in_ok-goto.ensures.code)
