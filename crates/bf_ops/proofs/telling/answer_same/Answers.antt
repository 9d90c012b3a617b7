use Rattle.std.proofs.Common.{◌-◌, false, ap, ◌∙◌}
use Rattle.bf_tape.specs.Code.{move_code}
use Rattle.bf_tape.specs.Piece.{joined}
use Rattle.bf_word.proofs.Chain.{adds_aside}
use Rattle.bf_word.proofs.Codes.{first_code, aside_code}
use Rattle.bf_ops.specs.Frame.{cell_of}
use Rattle.bf_ops.specs.OpsCode.{answer_code}
use Rattle.bf_ops.proofs.InPlace.{answer_same}
use Rattle.bf_ops.proofs.telling.answer_same.Goals as goal

pub returns-clause-effect : goal.returns-clause-effect
returns-clause-effect c =
    adds_aside c.append.result c.args.f.now c.append.new.f c.append.ensures.ok c.aside-piece.ensures.piece (answer_same c.args.reg c.cell_of-cell.result c.cell_of-cell.ensures.cell c.in_ok-move_to.ensures.effect)

pub returns-clause-code : goal.returns-clause-code
returns-clause-code c =
    let w = cell_of c.args.reg in
    aside_code c.append.result c.args.f.now c.append.new.f (answer_code c.args.f.now.cell false c.args.reg) (w - 1) c.append.ensures.ok
    (first_code c.args.f.now.cell (w - 1) (λ k. move_code k (w - 1) w) c.aside-piece.ensures.piece
    (c.in_ok-move_to.ensures.code ∙ ap (λ k. joined c.aside-piece.result (move_code c.aside-piece.result.cell (k - 1) k) (k - 1)) c.cell_of-cell.ensures.cell))
