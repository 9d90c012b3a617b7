use Rattle.bf_word.proofs.Chain.{adds_aside}
use Rattle.bf_word.proofs.Calls.{equal_adds}
use Rattle.std.proofs.Common.{◌++◌}
use Rattle.bf_tape.specs.Code.{clear_code, move_code}
use Rattle.bf_word.specs.WordCode.{subtract_code, once_code, clear_word_code, equal_code}
use Rattle.bf_word.proofs.Codes.{first_code, next_code, aside_code}
use Rattle.bf_word.proofs.word.equal.Goals as goal

pub returns-clause-effect : goal.returns-clause-effect
returns-clause-effect c =
    adds_aside c.append.result c.args.f.now c.append.new.f c.append.ensures.ok c.aside-piece.ensures.piece
    (equal_adds c.args.a c.args.b c.args.flag c.requires.a c.requires.b c.requires.flag c.in_ok-subtract.ensures.effect c.in_ok-clear.ensures.effect c.in_ok-lower_once.ensures.effect c.in_ok-clear_word.ensures.effect c.in_ok-clear-2.ensures.effect c.in_ok-move_to.ensures.effect)

pub returns-clause-code : goal.returns-clause-code
returns-clause-code c =
    let h = c.args.f.now.cell in
    let a = c.args.a in
    let b = c.args.b in
    let flag = c.args.flag in
    let one = subtract_code h a b in
    let two = one ++ clear_code 112 123 in
    let three = two ++ once_code 123 114 in
    let four = three ++ clear_word_code 114 114 in
    let five = four ++ clear_code 116 flag in
    aside_code c.append.result c.args.f.now c.append.new.f (equal_code h a b flag) 123 c.append.ensures.ok
    (next_code flag 123 five (λ k. move_code k 123 flag)
    (next_code 116 flag four (λ k. clear_code k flag)
    (next_code 114 116 three (λ k. clear_word_code k 114)
    (next_code 123 114 two (λ k. once_code k 114)
    (next_code 112 123 one (λ k. clear_code k 123)
    (first_code h 112 (λ k. subtract_code k a b) c.aside-piece.ensures.piece c.in_ok-subtract.ensures.code)
    c.in_ok-clear.ensures.code) c.in_ok-lower_once.ensures.code) c.in_ok-clear_word.ensures.code) c.in_ok-clear-2.ensures.code) c.in_ok-move_to.ensures.code)
