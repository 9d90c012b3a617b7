use Rattle.std.proofs.Common.{◌++◌, ap, ◌∙◌}
use Rattle.bf_tape.specs.Code.{add_code}
use Rattle.bf_tape.specs.Piece.{joined}
use Rattle.bf_word.proofs.Chain.{adds_aside}
use Rattle.bf_word.proofs.Codes.{first_code, next_code, aside_code}
use Rattle.bf_ops.specs.Frame.{is_negated}
use Rattle.bf_jump.specs.Pose.{is_sameness, words_code, words_cell, flag_code, flag_cell, far_code}
use Rattle.bf_jump.proofs.Asked.{far_posed, next_at}
use Rattle.bf_jump.proofs.posing.pose_far.Goals as goal

pub returns-clause-effect : goal.returns-clause-effect
returns-clause-effect c =
    adds_aside c.append.result c.args.f.now c.append.new.f c.append.ensures.ok c.aside-piece.ensures.piece
    (far_posed c.args.test c.args.reg c.args.operand c.is_sameness.result c.is_negated.result c.is_sameness.ensures c.is_negated.ensures c.in_ok-words.ensures.effect c.in_ok-raise_flag.ensures.effect c.in_ok-raise_flag-2.ensures.effect c.in_ok-add_const.ensures.effect)

pub returns-clause-code : goal.returns-clause-code
returns-clause-code c =
    let h = c.args.f.now.cell in
    let test = c.args.test in
    let x = c.args.reg in
    let v = c.args.operand in
    let k0 = words_cell test x v in
    let k1 = flag_cell k0 47 (is_sameness test) in
    let k2 = flag_cell k1 49 (is_negated test) in
    aside_code c.append.result c.args.f.now c.append.new.f (far_code h test x v) 48 c.append.ensures.ok
    (next_code k2 48 (words_code h test x v ++ flag_code k0 47 (is_sameness test) ++ flag_code k1 49 (is_negated test)) (λ k. add_code k 48 1)
    (next_at k1 (words_code h test x v ++ flag_code k0 47 (is_sameness test)) (λ k. flag_code k 49 (is_negated test)) (λ k. flag_cell k 49 (is_negated test))
    (next_at k0 (words_code h test x v) (λ k. flag_code k 47 (is_sameness test)) (λ k. flag_cell k 47 (is_sameness test))
    (first_code h k0 (λ k. words_code k test x v) c.aside-piece.ensures.piece c.in_ok-words.ensures.code)
    (c.in_ok-raise_flag.ensures.code ∙ ap (λ b. joined c.words.new.f (flag_code c.words.new.f.cell 47 b) (flag_cell c.words.new.f.cell 47 b)) c.is_sameness.ensures))
    (c.in_ok-raise_flag-2.ensures.code ∙ ap (λ b. joined c.raise_flag.new.f (flag_code c.raise_flag.new.f.cell 49 b) (flag_cell c.raise_flag.new.f.cell 49 b)) c.is_negated.ensures))
    c.in_ok-add_const.ensures.code)
