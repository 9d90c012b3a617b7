use Rattle.std.proofs.Common.{◌+◌, ◌-◌, ◌++◌, ap, ◌∙◌}
use Rattle.bf_tape.specs.Code.{move_code}
use Rattle.bf_tape.specs.Piece.{joined}
use Rattle.bf_word.specs.WordCode.{clear_word_code, once_code}
use Rattle.bf_word.proofs.Chain.{adds_aside}
use Rattle.bf_word.proofs.Codes.{first_code, next_code, aside_code}
use Rattle.bf_ops.specs.declared.telling.Told.TheVariants.{AtMost}
use Rattle.bf_ops.specs.Frame.{cell_of, before}
use Rattle.bf_ops.specs.OpsCode.{take_code, tell_code}
use Rattle.bf_ops.proofs.InPlace.{at_most_told}
use Rattle.bf_ops.proofs.telling.tell_at_most.Goals as goal

pub returns-clause-effect : goal.returns-clause-effect
returns-clause-effect c =
    adds_aside c.append.result c.args.f.now c.append.new.f c.append.ensures.ok c.aside-piece.ensures.piece
    (at_most_told c.args.reg c.args.operand c.cell_of-cell.result c.cell_of-cell.ensures.cell c.in_ok-take.ensures.effect c.in_ok-move_to.ensures.effect c.in_ok-lower_once.ensures.effect c.in_ok-clear_word.ensures.effect c.in_ok-move_to-2.ensures.effect)

pub returns-clause-code : goal.returns-clause-code
returns-clause-code c =
    let h = c.args.f.now.cell in
    let x = c.args.reg in
    let w = cell_of c.args.reg in
    let g = before c.args.reg in
    let xs = take_code h x c.args.operand in
    aside_code c.append.result c.args.f.now c.append.new.f (tell_code h AtMost x c.args.operand) (w + 9) c.append.ensures.ok
    (next_code (w + 2) (w + 9) (xs ++ move_code (g + 2) (w + 9) (w - 1) ++ once_code (w + 9) w ++ clear_word_code w w) (λ k. move_code k (w + 9) (w - 1))
    (next_code w (w + 2) (xs ++ move_code (g + 2) (w + 9) (w - 1) ++ once_code (w + 9) w) (λ k. clear_word_code k w)
    (next_code (w + 9) w (xs ++ move_code (g + 2) (w + 9) (w - 1)) (λ k. once_code k w)
    (next_code (g + 2) (w + 9) xs (λ k. move_code k (w + 9) (w - 1))
    (first_code h (g + 2) (λ k. take_code k x c.args.operand) c.aside-piece.ensures.piece c.in_ok-take.ensures.code)
    (c.in_ok-move_to.ensures.code ∙ ap (λ k. joined c.take.new.f (move_code c.take.new.f.cell (k + 9) (k - 1)) (k + 9)) c.cell_of-cell.ensures.cell))
    (c.in_ok-lower_once.ensures.code ∙ ap (λ k. joined c.move_to.new.self (once_code c.move_to.new.self.cell k) k) c.cell_of-cell.ensures.cell))
    (c.in_ok-clear_word.ensures.code ∙ ap (λ k. joined c.lower_once.new.f (clear_word_code c.lower_once.new.f.cell k) (k + 2)) c.cell_of-cell.ensures.cell))
    (c.in_ok-move_to-2.ensures.code ∙ ap (λ k. joined c.clear_word.new.f (move_code c.clear_word.new.f.cell (k + 9) (k - 1)) (k + 9)) c.cell_of-cell.ensures.cell))
