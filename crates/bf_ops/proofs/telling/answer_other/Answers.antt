use Rattle.std.proofs.Common.{◌-◌, true, ap, ◌∙◌}
use Rattle.bf_tape.specs.Code.{add_code, drain_code}
use Rattle.bf_tape.specs.Piece.{joined}
use Rattle.bf_word.proofs.Chain.{adds_aside}
use Rattle.bf_word.proofs.Codes.{first_code, next_code, aside_code}
use Rattle.bf_ops.specs.Frame.{cell_of}
use Rattle.bf_ops.specs.OpsCode.{answer_code}
use Rattle.bf_ops.proofs.InPlace.{answer_other}
use Rattle.bf_ops.proofs.telling.answer_other.Goals as goal

pub returns-clause-effect : goal.returns-clause-effect
returns-clause-effect c =
    adds_aside c.append.result c.args.f.now c.append.new.f c.append.ensures.ok c.aside-piece.ensures.piece
    (answer_other c.args.reg c.cell_of-cell.result c.cell_of-cell.ensures.cell c.in_ok-add_const.ensures.effect c.in_ok-drain.ensures.effect)

pub returns-clause-code : goal.returns-clause-code
returns-clause-code c =
    let w = cell_of c.args.reg in
    aside_code c.append.result c.args.f.now c.append.new.f (answer_code c.args.f.now.cell true c.args.reg) (w - 1) c.append.ensures.ok
    (next_code w (w - 1) (add_code c.args.f.now.cell w 1) (λ k. drain_code k (w - 1) w)
    (first_code c.args.f.now.cell w (λ k. add_code k w 1) c.aside-piece.ensures.piece
    (c.in_ok-add_const.ensures.code ∙ ap (λ k. joined c.aside-piece.result (add_code c.aside-piece.result.cell k 1) k) c.cell_of-cell.ensures.cell))
    (c.in_ok-drain.ensures.code ∙ ap (λ k. joined c.add_const.new.self (drain_code c.add_const.new.self.cell (k - 1) k) (k - 1)) c.cell_of-cell.ensures.cell))
