use Rattle.std.proofs.Common.{◌+◌, ap, ◌∙◌}
use Rattle.bf_tape.specs.Code.{clear_code}
use Rattle.bf_tape.specs.Piece.{joined}
use Rattle.bf_word.proofs.Chain.{adds_aside}
use Rattle.bf_word.proofs.Codes.{first_code, next_code, aside_code}
use Rattle.bf_ops.specs.Frame.{cell_of, before}
use Rattle.bf_ops.specs.OpsCode.{take_code, difference_code}
use Rattle.bf_ops.proofs.Acts.{sub_adds}
use Rattle.bf_ops.proofs.arithmetic.sub.Goals as goal

pub returns-clause-effect : goal.returns-clause-effect
returns-clause-effect c =
    adds_aside c.append.result c.args.f.now c.append.new.f c.append.ensures.ok c.aside-piece.ensures.piece
    (sub_adds c.args.reg c.args.operand c.cell_of-cell.result c.cell_of-cell.ensures.cell c.in_ok-take.ensures.effect c.in_ok-clear.ensures.effect)

pub returns-clause-code : goal.returns-clause-code
returns-clause-code c =
    let g = before c.args.reg in
    aside_code c.append.result c.args.f.now c.append.new.f (difference_code c.args.f.now.cell c.args.reg c.args.operand) (cell_of c.args.reg + 9) c.append.ensures.ok
    (next_code (g + 2) (cell_of c.args.reg + 9) (take_code c.args.f.now.cell c.args.reg c.args.operand) (λ k. clear_code k (cell_of c.args.reg + 9))
    (first_code c.args.f.now.cell (g + 2) (λ k. take_code k c.args.reg c.args.operand) c.aside-piece.ensures.piece c.in_ok-take.ensures.code)
    (c.in_ok-clear.ensures.code ∙ ap (λ w. joined c.take.new.f (clear_code c.take.new.f.cell (w + 9)) (w + 9)) c.cell_of-cell.ensures.cell))
