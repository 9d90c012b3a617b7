use Rattle.bf_tape.specs.Piece.{Piece}
use Rattle.bf_memory.specs.Row.{Loads}
use Rattle.bf_memory.proofs.Loaded.{load_adds, claim_aside, loads_aside}
use Rattle.std.proofs.Common.{◌++◌, ◌+◌, ◌∙◌, ◌≡◌}
use Rattle.bf_tape.specs.Code.{goto_code, clear_code, add_code, move_code, drain_code, dup_code, if_code, times_code, walk_code}
use Rattle.bf_word.specs.WordCode.{dup_word_code, move_word_code, drain_word_code, clear_word_code, set_code, lower_code, once_code}
use Rattle.bf_memory.specs.MemoryCode.{outward_code, homeward_code, access_code, over_code, seat_code, fetch_code, keep_code, load_code, store_code}
use Rattle.bf_word.proofs.Codes.{first_code, next_code, renamed_code, aside_code}
use Rattle.bf_tape.specs.Piece.{joined}
use Rattle.bf_memory.proofs.memory.load.Goals as goal

pub returns-clause-effect : goal.returns-clause-effect
returns-clause-effect c =
    claim_aside (λ (p q : Piece). Loads p q c.args.addr c.args.dst) c.append.result c.args.f.now c.append.new.f c.append.ensures.ok c.aside-piece.ensures.piece (loads_aside c.args.addr c.args.dst)
    (load_adds c.args.addr c.args.dst c.requires.addr c.requires.dst c.in_ok-high.ensures.effect c.in_ok-low.ensures.effect c.in_ok-seat.ensures.effect c.in_ok-access.ensures.effect c.in_ok-clear_word.ensures.effect c.in_ok-move_word.ensures.effect)

pub returns-clause-code : goal.returns-clause-code
returns-clause-code c =
    let one = seat_code c.args.f.now.cell c.args.addr in
    let two = one ++ access_code 123 (fetch_code 19) (fetch_code 16) in
    let three = two ++ clear_word_code 151 c.args.dst in
    aside_code c.append.result c.args.f.now c.append.new.f (load_code c.args.f.now.cell c.args.addr c.args.dst) 148 c.append.ensures.ok
    (next_code (c.args.dst + 2) 148 three (λ k. move_word_code k 146 c.args.dst)
    (next_code 151 (c.args.dst + 2) two (λ k. clear_word_code k c.args.dst)
    (next_code 123 151 one (λ k. access_code k (fetch_code 19) (fetch_code 16))
    (first_code c.args.f.now.cell 123 (λ k. seat_code k c.args.addr) c.aside-piece.ensures.piece c.in_ok-seat.ensures.code)
    (c.in_ok-access.ensures.code ∙ (λ i. joined c.seat.new.f (access_code c.seat.new.f.cell (c.in_ok-high.ensures.code i).commands (c.in_ok-low.ensures.code i).commands) 151)))
    c.in_ok-clear_word.ensures.code)
    c.in_ok-move_word.ensures.code)
