use Rattle.std.proofs.Common.{ap}
use Rattle.bf_word.proofs.Chain.{adds_aside}
use Rattle.bf_memory.proofs.Seated.{seat_adds}
use Rattle.std.proofs.Common.{◌++◌, ◌+◌, ◌∙◌, ◌≡◌}
use Rattle.bf_tape.specs.Code.{goto_code, clear_code, add_code, move_code, drain_code, dup_code, if_code, times_code, walk_code}
use Rattle.bf_word.specs.WordCode.{dup_word_code, move_word_code, drain_word_code, clear_word_code, set_code, lower_code, once_code}
use Rattle.bf_memory.specs.MemoryCode.{outward_code, homeward_code, access_code, over_code, seat_code, fetch_code, keep_code, load_code, store_code}
use Rattle.bf_word.proofs.Codes.{first_code, next_code, renamed_code, aside_code}
use Rattle.bf_tape.specs.Piece.{Piece, joined}
use Rattle.bf_memory.proofs.seat.seat.Goals as goal

pub returns-clause-effect : goal.returns-clause-effect
returns-clause-effect c =
    adds_aside c.append.result c.args.f.now c.append.new.f c.append.ensures.ok c.aside-piece.ensures.piece
    (seat_adds c.args.addr c.requires c.in_ok-over.ensures.turn c.in_ok-add_const.ensures.effect c.in_ok-dup.ensures.effect c.in_ok-lower_by.ensures.effect c.in_ok-clear_word.ensures.effect c.in_ok-dup_word.ensures.effect c.in_ok-times.ensures.effect
    (ap (λ p. p.cell) c.in_ok-times.ensures.code))

pub returns-clause-code : goal.returns-clause-code
returns-clause-code c =
    let one = add_code c.args.f.now.cell 116 127 in
    let two = one ++ dup_code 116 (c.args.addr + 2) 112 113 in
    let three = two ++ lower_code 113 114 110 in
    let four = three ++ clear_word_code 112 114 in
    let five = four ++ dup_word_code 116 c.args.addr 136 113 in
    aside_code c.append.result c.args.f.now c.append.new.f (seat_code c.args.f.now.cell c.args.addr) 123 c.append.ensures.ok
    (next_code 113 123 five (λ k. times_code k 123 over_code)
    (next_code 116 113 four (λ k. dup_word_code k c.args.addr 136 113)
    (next_code 112 116 three (λ k. clear_word_code k 114)
    (next_code 113 112 two (λ k. lower_code k 114 110)
    (next_code 116 113 one (λ k. dup_code k (c.args.addr + 2) 112 113)
    (first_code c.args.f.now.cell 116 (λ k. add_code k 116 127) c.aside-piece.ensures.piece c.in_ok-add_const.ensures.code)
    c.in_ok-dup.ensures.code)
    c.in_ok-lower_by.ensures.code)
    c.in_ok-clear_word.ensures.code)
    c.in_ok-dup_word.ensures.code)
    (c.in_ok-times.ensures.code ∙ ap (λ (b : Piece). joined c.dup_word.new.f (times_code c.dup_word.new.f.cell 123 b.commands) 123) c.in_ok-over.ensures.code))
