use Rattle.bf_word.proofs.Chain.{adds_aside}
use Rattle.bf_word.proofs.Calls.{sub_adds}
use Rattle.std.proofs.Common.{◌+◌, ◌++◌}
use Rattle.bf_tape.specs.Code.{clear_code}
use Rattle.bf_word.specs.WordCode.{dup_word_code, move_word_code, lower_code, difference_word_code}
use Rattle.bf_word.proofs.Codes.{first_code, next_code, aside_code}
use Rattle.bf_word.proofs.word.sub.Goals as goal

pub returns-clause-effect : goal.returns-clause-effect
returns-clause-effect c =
    adds_aside c.append.result c.args.f.now c.append.new.f c.append.ensures.ok c.aside-piece.ensures.piece
    (sub_adds c.args.to c.args.from c.requires.to c.requires.from c.in_ok-dup_word.ensures.effect c.in_ok-move_word.ensures.effect c.in_ok-lower_by.ensures.effect c.in_ok-clear.ensures.effect c.in_ok-move_word-2.ensures.effect)

pub returns-clause-code : goal.returns-clause-code
returns-clause-code c =
    let h = c.args.f.now.cell in
    let to = c.args.to in
    let from = c.args.from in
    let one = dup_word_code h from 110 113 in
    let two = one ++ move_word_code 113 to 114 in
    let three = two ++ lower_code (to + 2) 114 110 in
    let four = three ++ clear_code 112 123 in
    aside_code c.append.result c.args.f.now c.append.new.f (difference_word_code h to from) 116 c.append.ensures.ok
    (next_code 123 116 four (λ k. move_word_code k 114 to)
    (next_code 112 123 three (λ k. clear_code k 123)
    (next_code (to + 2) 112 two (λ k. lower_code k 114 110)
    (next_code 113 (to + 2) one (λ k. move_word_code k to 114)
    (first_code h 113 (λ k. dup_word_code k from 110 113) c.aside-piece.ensures.piece c.in_ok-dup_word.ensures.code)
    c.in_ok-move_word.ensures.code) c.in_ok-lower_by.ensures.code) c.in_ok-clear.ensures.code) c.in_ok-move_word-2.ensures.code)
