use Rattle.std.proofs.Common.{ap}
use Rattle.bf_tape.specs.Piece.{Piece}
use Rattle.bf_memory.specs.Walk.{Accesses}
use Rattle.bf_memory.proofs.Reached.{access_adds}
use Rattle.bf_memory.proofs.Loaded.{claim_aside, accesses_aside}
use Rattle.std.proofs.Common.{◌++◌, ◌∙◌, ◌≡◌, true, false}
use Rattle.bf_tape.specs.Code.{goto_code, clear_code, add_code, move_code, drain_code, dup_code, if_code, times_code, walk_code}
use Rattle.bf_word.specs.WordCode.{dup_word_code, move_word_code, drain_word_code, clear_word_code, set_code, lower_code, once_code}
use Rattle.bf_memory.specs.MemoryCode.{outward_code, homeward_code, access_code, over_code, seat_code, fetch_code, keep_code, load_code, store_code}
use Rattle.bf_word.proofs.Codes.{first_code, next_code, renamed_code, aside_code}
use Rattle.bf_tape.specs.Piece.{joined}
use Rattle.bf_memory.proofs.access.access.Goals as goal

pub returns-clause-effect : goal.returns-clause-effect
returns-clause-effect c =
    let high = c.args.high in
    let low = c.args.low in
    claim_aside (λ (p q : Piece). Accesses p q high low) c.append.result c.args.f.now c.append.new.f c.append.ensures.ok c.aside-piece.ensures.piece (accesses_aside high low)
    (access_adds c.in_ok-out.ensures.turn c.in_ok-home.ensures.turn (ap (λ p. p.cell) c.in_ok-add_const.ensures.code) (ap (λ p. p.cell) c.in_ok-shift_while.ensures.code) (ap (λ p. p.cell) c.in_ok-if_else.ensures.code) (ap (λ p. p.cell) c.in_ok-shift_while-2.ensures.code)
    c.in_ok-add_const.ensures.effect c.rename.ensures.effect c.in_ok-shift_while.ensures.effect c.in_ok-clear_word.ensures.effect c.in_ok-if_else.ensures.effect c.rename-2.ensures.effect c.in_ok-shift_while-2.ensures.effect c.rename-3.ensures.effect)

pub returns-clause-code : goal.returns-clause-code
returns-clause-code c =
    let one = add_code c.args.f.now.cell 150 1 in
    let two = one ++ walk_code 14 14 22 true outward_code in
    let three = two ++ clear_word_code 14 0 in
    let four = three ++ if_code 2 13 3 c.args.high.commands c.args.low.commands in
    let five = four ++ walk_code 25 37 22 false homeward_code in
    aside_code c.append.result c.args.f.now c.append.new.f (access_code c.args.f.now.cell c.args.high.commands c.args.low.commands) 151 c.append.ensures.ok
    (renamed_code 37 151 five (next_code 25 37 four (λ k. walk_code k 37 22 false homeward_code)
    (renamed_code 3 25 four (next_code 2 3 three (λ k. if_code k 13 3 c.args.high.commands c.args.low.commands)
    (next_code 14 2 two (λ k. clear_word_code k 0)
    (next_code 14 14 one (λ k. walk_code k 14 22 true outward_code)
    (renamed_code 150 14 one (first_code c.args.f.now.cell 150 (λ k. add_code k 150 1) c.aside-piece.ensures.piece c.in_ok-add_const.ensures.code) c.rename.ensures.code)
    (c.in_ok-shift_while.ensures.code ∙ ap (λ (b : Piece). joined c.rename.new.self (walk_code c.rename.new.self.cell 14 22 true b.commands) 14) c.in_ok-out.ensures.code))
    c.in_ok-clear_word.ensures.code)
    c.in_ok-if_else.ensures.code) c.rename-2.ensures.code)
    (c.in_ok-shift_while-2.ensures.code ∙ ap (λ (b : Piece). joined c.rename-2.new.self (walk_code c.rename-2.new.self.cell 37 22 false b.commands) 37) c.in_ok-home.ensures.code)) c.rename-3.ensures.code)
