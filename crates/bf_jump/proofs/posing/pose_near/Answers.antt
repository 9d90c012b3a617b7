use Rattle.std.proofs.Common.{◌+◌, ◌++◌, inl, ap, ◌∙◌, arith}
use Rattle.word24.specs.Word.{number_of}
use Rattle.bf_tape.specs.Code.{add_code}
use Rattle.bf_tape.specs.Piece.{joined}
use Rattle.bf_word.specs.WordCode.{equals_code}
use Rattle.bf_word.proofs.Chain.{adds_aside}
use Rattle.bf_word.proofs.Codes.{first_code, next_code, aside_code}
use Rattle.bf_ops.specs.Frame.{cell_of, is_negated}
use Rattle.bf_jump.specs.Pose.{flag_code, flag_cell, near_code}
use Rattle.bf_jump.proofs.Asked.{near_posed, next_at}
use Rattle.bf_jump.proofs.posing.pose_near.Goals as goal

pub equals-requires-clause-beyond : goal.equals-requires-clause-beyond
equals-requires-clause-beyond c = inl (omega (arith, c.cell_of-cell.ensures.low))

pub returns-clause-effect : goal.returns-clause-effect
returns-clause-effect c =
    adds_aside c.append.result c.args.f.now c.append.new.f c.append.ensures.ok c.aside-piece.ensures.piece
    (near_posed c.args.test c.args.reg (number_of c.args.word) c.cell_of-cell.result c.is_negated.result c.is_negated.ensures c.cell_of-cell.ensures.cell c.in_ok-equals.ensures.effect c.in_ok-raise_flag.ensures.effect c.in_ok-add_const.ensures.effect)

pub returns-clause-code : goal.returns-clause-code
returns-clause-code c =
    let h = c.args.f.now.cell in
    let w = cell_of c.args.reg in
    let n = number_of c.args.word in
    let o = is_negated c.args.test in
    let k1 = flag_cell (w + 2) 97 o in
    aside_code c.append.result c.args.f.now c.append.new.f (near_code h o c.args.reg n) 48 c.append.ensures.ok
    (next_code k1 48 (equals_code h w n 49 ++ flag_code (w + 2) 97 o) (λ k. add_code k 48 1)
    (next_at (w + 2) (equals_code h w n 49) (λ k. flag_code k 97 o) (λ k. flag_cell k 97 o)
    (first_code h (w + 2) (λ k. equals_code k w n 49) c.aside-piece.ensures.piece
    (c.in_ok-equals.ensures.code ∙ ap (λ v. joined c.aside-piece.result (equals_code c.aside-piece.result.cell v n 49) (v + 2)) c.cell_of-cell.ensures.cell))
    (c.in_ok-raise_flag.ensures.code ∙ ap (λ b. joined c.equals.new.f (flag_code c.equals.new.f.cell 97 b) (flag_cell c.equals.new.f.cell 97 b)) c.is_negated.ensures))
    c.in_ok-add_const.ensures.code)
