use Rattle.std.proofs.Common.{ap}
use Rattle.bf_memory.proofs.Bodies.{out_adds}
use Rattle.std.proofs.Common.{◌++◌, ◌+◌, true, false}
use Rattle.bf_tape.specs.Code.{goto_code, clear_code, add_code, move_code, drain_code, dup_code, if_code, times_code, walk_code}
use Rattle.bf_word.specs.WordCode.{dup_word_code, move_word_code, drain_word_code, clear_word_code, set_code, lower_code, once_code}
use Rattle.bf_memory.specs.MemoryCode.{outward_code, homeward_code, access_code, over_code, seat_code, fetch_code, keep_code, load_code, store_code}
use Rattle.bf_word.proofs.Codes.{first_code, next_code, renamed_code, aside_code}
use Rattle.bf_memory.proofs.access.outward.Goals as goal

pub returns-clause-turn : goal.returns-clause-turn
returns-clause-turn c =
    out_adds c.begin-body.ensures (ap (λ p. p.cell) c.in_ok-goto.ensures.code) c.in_ok-add_const.ensures.effect c.in_ok-move_word.ensures.effect c.in_ok-move_word-2.ensures.effect c.in_ok-move_to.ensures.effect
    c.in_ok-lower_once.ensures.effect c.in_ok-add_const-2.ensures.effect c.in_ok-drain.ensures.effect c.in_ok-add_const-3.ensures.effect c.in_ok-goto.ensures.effect

pub returns-clause-code : goal.returns-clause-code
returns-clause-code c =
    let one = add_code 0 14 255 in
    let two = one ++ move_word_code 14 0 22 in
    let three = two ++ move_word_code 2 10 32 in
    let four = three ++ move_code 12 13 35 in
    let five = four ++ once_code 13 22 in
    let six = five ++ add_code 22 36 1 in
    let seven = six ++ drain_code 36 31 36 in
    let eight = seven ++ add_code 31 37 1 in
    (next_code 37 0 eight (λ k. goto_code k 0)
    (next_code 31 37 seven (λ k. add_code k 37 1)
    (next_code 36 31 six (λ k. drain_code k 31 36)
    (next_code 22 36 five (λ k. add_code k 36 1)
    (next_code 13 22 four (λ k. once_code k 22)
    (next_code 12 13 three (λ k. move_code k 13 35)
    (next_code 2 12 two (λ k. move_word_code k 10 32)
    (next_code 14 2 one (λ k. move_word_code k 0 22)
    (first_code 0 14 (λ k. add_code k 14 255) c.begin-body.ensures c.in_ok-add_const.ensures.code)
    c.in_ok-move_word.ensures.code)
    c.in_ok-move_word-2.ensures.code)
    c.in_ok-move_to.ensures.code)
    c.in_ok-lower_once.ensures.code)
    c.in_ok-add_const-2.ensures.code)
    c.in_ok-drain.ensures.code)
    c.in_ok-add_const-3.ensures.code)
    c.in_ok-goto.ensures.code)
