use Rattle.std.proofs.Common.{◌+◌, ◌-◌, ◌++◌, ap, ◌∙◌}
use Rattle.bf_tape.specs.Code.{move_code}
use Rattle.bf_tape.specs.Piece.{joined}
use Rattle.bf_word.specs.WordCode.{clear_word_code, once_code}
use Rattle.bf_word.proofs.Chain.{adds_aside}
use Rattle.bf_word.proofs.Codes.{first_code, next_code, aside_code}
use Rattle.bf_ops.specs.declared.telling.Told.TheVariants.{Same}
use Rattle.bf_ops.specs.Frame.{cell_of}
use Rattle.bf_ops.specs.OpsCode.{difference_code, tell_code}
use Rattle.bf_ops.proofs.InPlace.{same_told}
use Rattle.bf_ops.proofs.telling.tell_same.Goals as goal

pub returns-clause-effect : goal.returns-clause-effect
returns-clause-effect c =
    adds_aside c.append.result c.args.f.now c.append.new.f c.append.ensures.ok c.aside-piece.ensures.piece
    (same_told c.args.reg c.args.operand c.cell_of-cell.result c.cell_of-cell.ensures.cell c.in_ok-sub.ensures.effect c.in_ok-lower_once.ensures.effect c.in_ok-clear_word.ensures.effect c.in_ok-move_to.ensures.effect)

pub returns-clause-code : goal.returns-clause-code
returns-clause-code c =
    let h = c.args.f.now.cell in
    let x = c.args.reg in
    let w = cell_of c.args.reg in
    let xs = difference_code h x c.args.operand in
    aside_code c.append.result c.args.f.now c.append.new.f (tell_code h Same x c.args.operand) (w + 9) c.append.ensures.ok
    (next_code (w + 2) (w + 9) (xs ++ once_code (w + 9) w ++ clear_word_code w w) (λ k. move_code k (w + 9) (w - 1))
    (next_code w (w + 2) (xs ++ once_code (w + 9) w) (λ k. clear_word_code k w)
    (next_code (w + 9) w xs (λ k. once_code k w)
    (first_code h (w + 9) (λ k. difference_code k x c.args.operand) c.aside-piece.ensures.piece c.in_ok-sub.ensures.code)
    (c.in_ok-lower_once.ensures.code ∙ ap (λ k. joined c.sub.new.f (once_code c.sub.new.f.cell k) k) c.cell_of-cell.ensures.cell))
    (c.in_ok-clear_word.ensures.code ∙ ap (λ k. joined c.lower_once.new.f (clear_word_code c.lower_once.new.f.cell k) (k + 2)) c.cell_of-cell.ensures.cell))
    (c.in_ok-move_to.ensures.code ∙ ap (λ k. joined c.clear_word.new.f (move_code c.clear_word.new.f.cell (k + 9) (k - 1)) (k + 9)) c.cell_of-cell.ensures.cell))
