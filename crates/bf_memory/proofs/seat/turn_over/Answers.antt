use Rattle.std.proofs.Common.{ap}
use Rattle.word24.specs.Word.{number_of}
use Rattle.bf_memory.proofs.Seated.{over_adds}
use Rattle.std.proofs.Common.{◌++◌, ◌∙◌, ◌≡◌}
use Rattle.bf_tape.specs.Code.{goto_code, clear_code, add_code, move_code, drain_code, dup_code, if_code, times_code, walk_code}
use Rattle.bf_word.specs.WordCode.{dup_word_code, move_word_code, drain_word_code, clear_word_code, set_code, lower_code, once_code}
use Rattle.bf_memory.specs.MemoryCode.{outward_code, homeward_code, access_code, over_code, seat_code, fetch_code, keep_code, load_code, store_code}
use Rattle.bf_word.proofs.Codes.{first_code, next_code, renamed_code, aside_code}
use Rattle.bf_tape.specs.Piece.{joined}
use Rattle.bf_memory.proofs.seat.turn_over.Goals as goal

pub returns-clause-turn : goal.returns-clause-turn
returns-clause-turn c =
    over_adds (number_of c.wrap.result) c.wrap.ensures c.begin-body.ensures (ap (λ p. p.cell) c.in_ok-goto.ensures.code) c.in_ok-add_const.ensures.effect c.in_ok-move_word.ensures.effect c.in_ok-set.ensures.effect c.in_ok-drain_word.ensures.effect c.in_ok-goto.ensures.effect

pub returns-clause-code : goal.returns-clause-code
returns-clause-code c =
    let one = add_code 123 149 1 in
    let two = one ++ move_word_code 149 136 114 in
    let three = two ++ set_code 138 136 16777215 in
    let four = three ++ drain_word_code 138 114 136 in
    (next_code 116 123 four (λ k. goto_code k 123)
    (next_code 138 116 three (λ k. drain_word_code k 114 136)
    (next_code 138 138 two (λ k. set_code k 136 16777215)
    (next_code 149 138 one (λ k. move_word_code k 136 114)
    (first_code 123 149 (λ k. add_code k 149 1) c.begin-body.ensures c.in_ok-add_const.ensures.code)
    c.in_ok-move_word.ensures.code)
    (c.in_ok-set.ensures.code ∙ ap (λ n. joined c.move_word.new.f (set_code c.move_word.new.f.cell 136 n) 138) c.wrap.ensures))
    c.in_ok-drain_word.ensures.code)
    c.in_ok-goto.ensures.code)
