-- The exact commands of loads and stores.
use Rattle.std.proofs.Common.{◌≡◌, ℕ, ◌+◌, ◌^◌, ◌<◌, ◌≤◌, inl, inr, true, false, refl, arith}
use Rattle.bf_lang.specs.Balance.{IsBalanced}
use Rattle.bf_tape.specs.Tape.{put}
use Rattle.bf_tape.specs.Piece.{Piece, joined, Adds}
use Rattle.bf_tape.proofs.Added.{adds_walk, adds_times, adds_if}
use Rattle.bf_word.specs.Word.{word_in, with_word, IsClear}
use Rattle.bf_memory.specs.Walk.{Accesses, GoesOut, GoesHome, TurnsOver, Fetches, Keeps}
use Rattle.bf_memory.specs.Row.{near, side, Loads, Stores}
use Rattle.bf_memory.specs.MemoryCode.{outward_code, homeward_code, access_code, over_code, seat_code, fetch_code, keep_code, load_code, store_code}
use Rattle.bf_memory.proofs.Bodies.{out_adds, home_adds}
use Rattle.bf_memory.proofs.Seated.{over_adds, seat_adds}
use Rattle.bf_memory.proofs.Reached.{access_adds}
use Rattle.bf_memory.proofs.Found.{fetch_adds, keep_adds}
use Rattle.bf_memory.proofs.Loaded.{load_adds, store_adds, accesses_aside, loads_aside, stores_aside}
use Rattle.bf_codes.specs.Exact.{start}
use Rattle.bf_codes.proofs.Parts.{made, goto_at, clear_at, add_at, move_at, drain_at, dup_at, rename_at}
use Rattle.bf_codes.proofs.Worded.{clear_word_at, dup_word_at, move_word_at, drain_word_at, set_at, lower_at, once_at}

abbrev outward : Piece
outward = record { commands = outward_code; cell = 0 }

out_is : GoesOut outward
out_is = out_adds refl refl (add_at (start 0) 14 255 (omega arith) (omega arith) (omega arith)) (move_word_at _ 0 22 (omega arith) (omega arith) (omega arith) (inl (omega arith))) (move_word_at _ 10 32 (omega arith) (omega arith) (omega arith) (inl (omega arith)))
    (move_at _ 13 35 (omega arith) (omega arith) (omega arith) (omega arith)) (once_at _ 22 (omega arith) (omega arith)) (add_at _ 36 1 (omega arith) (omega arith) (omega arith)) (drain_at _ 31 36 (omega arith) (omega arith) (omega arith) (omega arith))
    (add_at _ 37 1 (omega arith) (omega arith) (omega arith)) (goto_at _ 0 (omega arith) (omega arith))

abbrev homeward : Piece
homeward = record { commands = homeward_code; cell = 0 }

home_is : GoesHome homeward
home_is = home_adds refl refl (clear_at (start 0) 37 (omega arith) (omega arith)) (move_word_at _ 32 10 (omega arith) (omega arith) (omega arith) (inr (omega arith))) (goto_at _ 0 (omega arith) (omega arith))

abbrev over : Piece
over = record { commands = over_code; cell = 123 }

over_is : TurnsOver over
over_is = over_adds 16777215 refl refl refl (add_at (start 123) 149 1 (omega arith) (omega arith) (omega arith)) (move_word_at _ 136 114 (omega arith) (omega arith) (omega arith) (inr (omega arith))) (set_at _ 136 16777215 (omega arith) (omega arith))
    (drain_word_at _ 114 136 (omega arith) (omega arith) (omega arith) (inl (omega arith))) (goto_at _ 123 (omega arith) (omega arith))

seat_at : (p : Piece) (addr : ℕ) → p.cell < 256 → addr < 108 → Adds p (joined p (seat_code p.cell addr) 123) IsClear (λ input s. put (with_word s 136 (near (word_in s addr))) 149 (side (word_in s addr))) (2 ^ 23) (2 ^ 15)
seat_at p addr lp la =
    made p (seat_adds addr la over_is (add_at (start p.cell) 116 127 lp (omega arith) (omega arith)) (dup_at _ (addr + 2) 112 113 (omega arith) (omega arith) (omega arith) (omega arith) (omega arith) (omega arith) (omega arith))
    (lower_at _ 114 110 (omega arith) (omega arith) (omega arith) (inl (omega arith))) (clear_word_at _ 114 (omega arith) (omega arith)) (dup_word_at _ addr 136 113 (omega arith) (omega arith) (omega arith) (omega arith) (inl (omega arith)) (inr (omega arith)) (inl (omega arith)))
    (adds_times _ over 123 (omega arith) (omega arith) over_is.balanced) refl)

access_at : (p high low : Piece) → p.cell < 256 → high.cell ≡ 0 → low.cell ≡ 0 → IsBalanced high.commands → IsBalanced low.commands → Accesses p (joined p (access_code p.cell high.commands low.commands) 151) high low
access_at p high low lp hc lc hb lb =
    accesses_aside high low p (start p.cell) (record { commands = access_code p.cell high.commands low.commands; cell = 151 }) refl
    (access_adds out_is home_is refl refl refl refl (add_at (start p.cell) 150 1 lp (omega arith) (omega arith)) (rename_at _ 14) (adds_walk _ outward 14 22 true (omega arith) (omega arith) (omega arith) out_is.balanced)
    (clear_word_at _ 0 (omega arith) (omega arith)) (adds_if _ high low 13 3 (omega arith) (omega arith) (omega arith) (omega arith) hb lb) (rename_at _ 25) (adds_walk _ homeward 37 22 false (omega arith) (omega arith) (omega arith) home_is.balanced) (rename_at _ 151))

abbrev fetched : ℕ → Piece
fetched word = record { commands = fetch_code word; cell = 0 }

fetch_is : (word : ℕ) → 16 ≤ word → word ≤ 19 → Fetches (fetched word) word
fetch_is word lo hi = fetch_adds word refl refl (dup_word_at (start 0) word 10 4 (omega arith) (omega arith) (omega arith) (omega arith) (inr (omega arith)) (inl (omega arith)) (inl (omega arith))) (goto_at _ 0 (omega arith) (omega arith))

abbrev kept : ℕ → Piece
kept word = record { commands = keep_code word; cell = 0 }

keep_is : (word : ℕ) → 16 ≤ word → word ≤ 19 → Keeps (kept word) word
keep_is word lo hi = keep_adds word lo refl refl (clear_word_at (start 0) word (omega arith) (omega arith)) (move_word_at _ 10 word (omega arith) (omega arith) (omega arith) (inl (omega arith))) (goto_at _ 0 (omega arith) (omega arith))

pub load_at : (p : Piece) (addr dst : ℕ) → p.cell < 256 → addr < 108 → dst < 108 → Loads p (joined p (load_code p.cell addr dst) 148) addr dst
load_at p addr dst lp la ld =
    let high = fetch_is 19 (omega arith) (omega arith) in
    let low = fetch_is 16 (omega arith) (omega arith) in
    loads_aside addr dst p (start p.cell) (record { commands = load_code p.cell addr dst; cell = 148 }) refl
    (load_adds addr dst la ld high low (seat_at (start p.cell) addr lp la) (access_at _ (fetched 19) (fetched 16) (omega arith) refl refl high.balanced low.balanced) (clear_word_at _ dst (omega arith) (omega arith)) (move_word_at _ 146 dst (omega arith) (omega arith) (omega arith) (inr (omega arith))))

pub store_at : (p : Piece) (addr src : ℕ) → p.cell < 256 → addr < 108 → src < 108 → Stores p (joined p (store_code p.cell addr src) 151) addr src
store_at p addr src lp la ls =
    let high = keep_is 19 (omega arith) (omega arith) in
    let low = keep_is 16 (omega arith) (omega arith) in
    stores_aside addr src p (start p.cell) (record { commands = store_code p.cell addr src; cell = 151 }) refl
    (store_adds addr src la ls high low (seat_at (start p.cell) addr lp la) (dup_word_at _ src 146 113 (omega arith) (omega arith) (omega arith) (omega arith) (inl (omega arith)) (inr (omega arith)) (inl (omega arith))) (access_at _ (kept 19) (kept 16) (omega arith) refl refl high.balanced low.balanced))
