use Rattle.bf_word.proofs.Chain.{adds_aside}
use Rattle.bf_word.proofs.Calls.{dec_adds}
use Rattle.std.proofs.Common.{◌+◌, ◌++◌}
use Rattle.bf_tape.specs.Code.{clear_code}
use Rattle.bf_word.specs.WordCode.{move_word_code, once_code, dec_code}
use Rattle.bf_word.proofs.Codes.{first_code, next_code, aside_code}
use Rattle.bf_word.proofs.word.dec.Goals as goal

pub returns-clause-effect : goal.returns-clause-effect
returns-clause-effect c =
    adds_aside c.append.result c.args.f.now c.append.new.f c.append.ensures.ok c.aside-piece.ensures.piece
    (dec_adds c.args.w c.requires c.in_ok-move_word.ensures.effect c.in_ok-lower_once.ensures.effect c.in_ok-clear.ensures.effect c.in_ok-move_word-2.ensures.effect)

pub returns-clause-code : goal.returns-clause-code
returns-clause-code c =
    let h = c.args.f.now.cell in
    let w = c.args.w in
    let one = move_word_code h w 114 in
    let two = one ++ once_code (w + 2) 114 in
    let three = two ++ clear_code 114 123 in
    aside_code c.append.result c.args.f.now c.append.new.f (dec_code h w) 116 c.append.ensures.ok
    (next_code 123 116 three (λ k. move_word_code k 114 w)
    (next_code 114 123 two (λ k. clear_code k 123)
    (next_code (w + 2) 114 one (λ k. once_code k 114)
    (first_code h (w + 2) (λ k. move_word_code k w 114) c.aside-piece.ensures.piece c.in_ok-move_word.ensures.code)
    c.in_ok-lower_once.ensures.code) c.in_ok-clear.ensures.code) c.in_ok-move_word-2.ensures.code)
