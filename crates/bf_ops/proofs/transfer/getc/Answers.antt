use Rattle.bf_word.proofs.Chain.{adds_aside}
use Rattle.bf_ops.proofs.Acts.{getc_adds}
use Rattle.std.proofs.Common.{◌+◌, ap, ◌∙◌}
use Rattle.bf_tape.specs.Code.{read_code}
use Rattle.bf_tape.specs.Piece.{joined}
use Rattle.bf_word.specs.WordCode.{clear_word_code}
use Rattle.bf_ops.specs.Frame.{cell_of}
use Rattle.bf_ops.specs.OpsCode.{getc_code}
use Rattle.bf_word.proofs.Codes.{first_code, next_code, aside_code}
use Rattle.bf_ops.proofs.transfer.getc.Goals as goal

pub returns-clause-effect : goal.returns-clause-effect
returns-clause-effect c =
    adds_aside c.append.result c.args.f.now c.append.new.f c.append.ensures.ok c.aside-piece.ensures.piece
    (getc_adds c.args.reg c.cell_of-cell.result c.cell_of-cell.ensures.cell c.in_ok-clear_word.ensures.effect c.in_ok-read.ensures.effect)

pub returns-clause-code : goal.returns-clause-code
returns-clause-code c =
    aside_code c.append.result c.args.f.now c.append.new.f (getc_code c.args.f.now.cell c.args.reg) (cell_of c.args.reg) c.append.ensures.ok
    (next_code (cell_of c.args.reg + 2) (cell_of c.args.reg) (clear_word_code c.args.f.now.cell (cell_of c.args.reg)) (λ k. read_code k (cell_of c.args.reg))
    (first_code c.args.f.now.cell (cell_of c.args.reg + 2) (λ k. clear_word_code k (cell_of c.args.reg)) c.aside-piece.ensures.piece (c.in_ok-clear_word.ensures.code ∙ ap (λ w. joined c.aside-piece.result (clear_word_code c.aside-piece.result.cell w) (w + 2)) c.cell_of-cell.ensures.cell))
    (c.in_ok-read.ensures.code ∙ ap (λ w. joined c.clear_word.new.f (read_code c.clear_word.new.f.cell w) w) c.cell_of-cell.ensures.cell))
