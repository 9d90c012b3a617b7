use Rattle.std.proofs.Common.{ap}
use Rattle.bf_memory.proofs.Bodies.{home_adds}
use Rattle.std.proofs.Common.{◌++◌, ◌+◌, true, false}
use Rattle.bf_tape.specs.Code.{goto_code, clear_code, add_code, move_code, drain_code, dup_code, if_code, times_code, walk_code}
use Rattle.bf_word.specs.WordCode.{dup_word_code, move_word_code, drain_word_code, clear_word_code, set_code, lower_code, once_code}
use Rattle.bf_memory.specs.MemoryCode.{outward_code, homeward_code, access_code, over_code, seat_code, fetch_code, keep_code, load_code, store_code}
use Rattle.bf_word.proofs.Codes.{first_code, next_code, renamed_code, aside_code}
use Rattle.bf_memory.proofs.access.homeward.Goals as goal

pub returns-clause-turn : goal.returns-clause-turn
returns-clause-turn c = home_adds c.begin-body.ensures (ap (λ p. p.cell) c.in_ok-goto.ensures.code) c.in_ok-clear.ensures.effect c.in_ok-move_word.ensures.effect c.in_ok-goto.ensures.effect

pub returns-clause-code : goal.returns-clause-code
returns-clause-code c =
    let one = clear_code 0 37 in
    let two = one ++ move_word_code 37 32 10 in
    (next_code 34 0 two (λ k. goto_code k 0)
    (next_code 37 34 one (λ k. move_word_code k 32 10)
    (first_code 0 37 (λ k. clear_code k 37) c.begin-body.ensures c.in_ok-clear.ensures.code)
    c.in_ok-move_word.ensures.code)
    c.in_ok-goto.ensures.code)
