use Rattle.std.proofs.Common.{◌+◌, ◌-◌, ap, ◌∙◌}
use Rattle.bf_tape.specs.Piece.{joined}
use Rattle.bf_word.proofs.Chain.{adds_aside}
use Rattle.bf_word.proofs.Codes.{first_code, next_code, aside_code}
use Rattle.bf_ops.specs.Frame.{cell_of, told_of, is_otherwise}
use Rattle.bf_ops.specs.OpsCode.{tell_code, answer_code, set_if_code}
use Rattle.bf_ops.proofs.InPlace.{set_if_adds}
use Rattle.bf_ops.proofs.telling.set_if.Goals as goal

pub returns-clause-effect : goal.returns-clause-effect
returns-clause-effect c =
    adds_aside c.append.result c.args.f.now c.append.new.f c.append.ensures.ok c.aside-piece.ensures.piece
    (set_if_adds c.args.test c.args.reg c.args.operand c.told_of.result c.is_otherwise.result c.told_of.ensures c.is_otherwise.ensures c.in_ok-tell.ensures.effect c.in_ok-answer.ensures.effect)

pub returns-clause-code : goal.returns-clause-code
returns-clause-code c =
    let h = c.args.f.now.cell in
    let x = c.args.reg in
    let w = cell_of c.args.reg in
    aside_code c.append.result c.args.f.now c.append.new.f (set_if_code h c.args.test x c.args.operand) (w - 1) c.append.ensures.ok
    (next_code (w + 9) (w - 1) (tell_code h (told_of c.args.test) x c.args.operand) (λ k. answer_code k (is_otherwise c.args.test) x)
    (first_code h (w + 9) (λ k. tell_code k (told_of c.args.test) x c.args.operand) c.aside-piece.ensures.piece
    (c.in_ok-tell.ensures.code ∙ ap (λ m. joined c.aside-piece.result (tell_code c.aside-piece.result.cell m x c.args.operand) (w + 9)) c.told_of.ensures))
    (c.in_ok-answer.ensures.code ∙ ap (λ b. joined c.tell.new.f (answer_code c.tell.new.f.cell b x) (w - 1)) c.is_otherwise.ensures))
