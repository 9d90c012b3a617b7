use Rattle.std.proofs.Common.{sym, subst, ◌≡◌}
use Rattle.bf_ops.proofs.Acts.{on_ok}
use Rattle.bf_ops.proofs.Coded.{none_code}
use Rattle.bf_tape.specs.Piece.{joined}
use Rattle.bf_turn.specs.Turn.{tail_code, tail_cell}
use Rattle.bf_turn.proofs.Turned.{tail_serves, tail_none}
use Rattle.bf_turn.proofs.step.serve_asked.Goals as goal

pub returns-then-accesses-clause-code : goal.returns-then-accesses-clause-code
returns-then-accesses-clause-code c = on_ok c.serve.result (λ e. subst (λ b. c.serve.new.f ≡ joined c.args.f.now (tail_code c.args.f.now.cell b) (tail_cell c.args.f.now.cell b)) (sym c.if-accesses.true) e) c.serve.ensures.code

pub returns-then-accesses-clause-effect : goal.returns-then-accesses-clause-effect
returns-then-accesses-clause-effect c = on_ok c.serve.result (tail_serves c.args.accesses c.if-accesses.true) c.serve.ensures.effect

pub returns-clause-code : goal.returns-clause-code
returns-clause-code c = subst (λ b. c.args.f.now ≡ joined c.args.f.now (tail_code c.args.f.now.cell b) (tail_cell c.args.f.now.cell b)) (sym c.if-accesses.false) (none_code c.args.f.now)

pub returns-clause-effect : goal.returns-clause-effect
returns-clause-effect c = tail_none c.args.f.now c.args.accesses c.if-accesses.false
