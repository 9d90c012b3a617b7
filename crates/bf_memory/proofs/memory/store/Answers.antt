use Rattle.bf_tape.specs.Piece.{Piece}
use Rattle.bf_memory.specs.Row.{Stores}
use Rattle.bf_memory.proofs.Loaded.{store_adds, claim_aside, stores_aside}
use Rattle.std.proofs.Common.{◌++◌, ◌+◌, ◌∙◌, ◌≡◌}
use Rattle.bf_tape.specs.Code.{goto_code, clear_code, add_code, move_code, drain_code, dup_code, if_code, times_code, walk_code}
use Rattle.bf_word.specs.WordCode.{dup_word_code, move_word_code, drain_word_code, clear_word_code, set_code, lower_code, once_code}
use Rattle.bf_memory.specs.MemoryCode.{outward_code, homeward_code, access_code, over_code, seat_code, fetch_code, keep_code, load_code, store_code}
use Rattle.bf_word.proofs.Codes.{first_code, next_code, renamed_code, aside_code}
use Rattle.bf_tape.specs.Piece.{joined}
use Rattle.bf_memory.proofs.memory.store.Goals as goal

pub returns-clause-effect : goal.returns-clause-effect
returns-clause-effect c =
    claim_aside (λ (p q : Piece). Stores p q c.args.addr c.args.src) c.append.result c.args.f.now c.append.new.f c.append.ensures.ok c.aside-piece.ensures.piece (stores_aside c.args.addr c.args.src)
    (store_adds c.args.addr c.args.src c.requires.addr c.requires.src c.in_ok-high.ensures.effect c.in_ok-low.ensures.effect c.in_ok-seat.ensures.effect c.in_ok-dup_word.ensures.effect c.in_ok-access.ensures.effect)

pub returns-clause-code : goal.returns-clause-code
returns-clause-code c =
    let one = seat_code c.args.f.now.cell c.args.addr in
    let two = one ++ dup_word_code 123 c.args.src 146 113 in
    aside_code c.append.result c.args.f.now c.append.new.f (store_code c.args.f.now.cell c.args.addr c.args.src) 151 c.append.ensures.ok
    (next_code 113 151 two (λ k. access_code k (keep_code 19) (keep_code 16))
    (next_code 123 113 one (λ k. dup_word_code k c.args.src 146 113)
    (first_code c.args.f.now.cell 123 (λ k. seat_code k c.args.addr) c.aside-piece.ensures.piece c.in_ok-seat.ensures.code)
    c.in_ok-dup_word.ensures.code)
    (c.in_ok-access.ensures.code ∙ (λ i. joined c.dup_word.new.f (access_code c.dup_word.new.f.cell (c.in_ok-high.ensures.code i).commands (c.in_ok-low.ensures.code i).commands) 151)))
