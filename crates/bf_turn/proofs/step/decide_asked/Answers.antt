use Rattle.std.proofs.Common.{sym, subst, ◌≡◌}
use Rattle.bf_ops.proofs.Acts.{on_ok}
use Rattle.bf_ops.proofs.Coded.{none_code}
use Rattle.bf_tape.specs.Piece.{joined}
use Rattle.bf_turn.specs.Turn.{decision_code, decision_cell}
use Rattle.bf_turn.proofs.Turned.{decision_some, decision_none}
use Rattle.bf_turn.proofs.step.decide_asked.Goals as goal

pub returns-then-branches-clause-code : goal.returns-then-branches-clause-code
returns-then-branches-clause-code c =
    on_ok c.decide.result (λ e. subst (λ b. c.decide.new.f ≡ joined c.args.f.now (decision_code c.args.f.now.cell c.args.digits b) (decision_cell c.args.f.now.cell b)) (sym c.if-branches.true) e) c.decide.ensures.code

pub returns-then-branches-clause-effect : goal.returns-then-branches-clause-effect
returns-then-branches-clause-effect c = on_ok c.decide.result (decision_some c.args.digits c.args.branches c.if-branches.true) c.decide.ensures.effect

pub returns-clause-code : goal.returns-clause-code
returns-clause-code c = subst (λ b. c.args.f.now ≡ joined c.args.f.now (decision_code c.args.f.now.cell c.args.digits b) (decision_cell c.args.f.now.cell b)) (sym c.if-branches.false) (none_code c.args.f.now)

pub returns-clause-effect : goal.returns-clause-effect
returns-clause-effect c = decision_none c.args.f.now c.args.digits c.args.branches c.if-branches.false
