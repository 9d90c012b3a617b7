use Rattle.std.proofs.Common.{◌+◌, ap, ◌∙◌}
use Rattle.bf_tape.specs.Code.{add_code}
use Rattle.bf_tape.specs.Piece.{joined}
use Rattle.bf_jump.proofs.Headed.{mark_adds}
use Rattle.bf_jump.proofs.goal.mark.Goals as goal

pub returns-clause-effect : goal.returns-clause-effect
returns-clause-effect c = mark_adds c.args.digits c.cell_of.result c.args.reg c.cell_of.ensures.cell c.in_ok-add_const.ensures.effect

pub returns-clause-code : goal.returns-clause-code
returns-clause-code c = c.in_ok-add_const.ensures.code ∙ ap (λ k. joined c.args.f.now (add_code c.args.f.now.cell (k + 3) 1) (k + 3)) c.cell_of.ensures.cell
