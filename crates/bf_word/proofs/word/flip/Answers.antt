use Rattle.bf_word.proofs.Chain.{adds_aside}
use Rattle.bf_word.proofs.Calls.{flip_adds}
use Rattle.word24.specs.Word.{number_of}
use Rattle.std.proofs.Common.{◌+◌, ◌++◌, ap, ◌∙◌}
use Rattle.bf_tape.specs.Piece.{joined}
use Rattle.bf_word.specs.WordCode.{move_word_code, set_code, drain_word_code, flip_code}
use Rattle.bf_word.proofs.Codes.{first_code, next_code, aside_code}
use Rattle.bf_word.proofs.word.flip.Goals as goal

pub returns-clause-effect : goal.returns-clause-effect
returns-clause-effect c =
    adds_aside c.append.result c.args.f.now c.append.new.f c.append.ensures.ok c.aside-piece.ensures.piece
    (flip_adds c.args.w c.requires (number_of c.wrap.result) c.wrap.ensures c.in_ok-move_word.ensures.effect c.in_ok-set.ensures.effect c.in_ok-drain_word.ensures.effect)

pub returns-clause-code : goal.returns-clause-code
returns-clause-code c =
    let h = c.args.f.now.cell in
    let w = c.args.w in
    let one = move_word_code h w 114 in
    let two = one ++ set_code (w + 2) w 16777215 in
    aside_code c.append.result c.args.f.now c.append.new.f (flip_code h w) 116 c.append.ensures.ok
    (next_code (w + 2) 116 two (λ k. drain_word_code k 114 w)
    (next_code (w + 2) (w + 2) one (λ k. set_code k w 16777215)
    (first_code h (w + 2) (λ k. move_word_code k w 114) c.aside-piece.ensures.piece c.in_ok-move_word.ensures.code)
    (c.in_ok-set.ensures.code ∙ ap (λ n. joined c.move_word.new.f (set_code c.move_word.new.f.cell w n) (w + 2)) c.wrap.ensures))
    c.in_ok-drain_word.ensures.code)
