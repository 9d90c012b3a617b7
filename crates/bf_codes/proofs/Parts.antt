-- The exact commands of the calls on cells.
use Rattle.std.proofs.Common.{◌≡◌, ◌≢◌, ℕ, ◌+◌, ◌-◌, ◌%◌, ◌^◌, ◌<◌, ◌≤◌, List, [], Ok, refl, sym, arith, append-nil, length-append}
use Rattle.bf_tape.specs.Tape.{Tape, get, put}
use Rattle.bf_tape.specs.Code.{goto_code, clear_code, add_code, move_code, drain_code, dup_code, read_code, write_code}
use Rattle.bf_tape.specs.Piece.{Piece, joined, Adds, any, moved, drained, doubled, taken_in, written_out, renamed}
use Rattle.bf_tape.proofs.Moves.{does_none}
use Rattle.bf_tape.proofs.Added.{adds_of, length-many, length_more}
use Rattle.bf_tape.proofs.Pieces.{does_goto, does_clear, does_add, does_move, does_drain, does_dup, does_take, does_put, balanced_goto, balanced_clear, balanced_add, balanced_move, balanced_drain, balanced_dup, balanced_read, balanced_write}
use Rattle.bf_tape.proofs.Turning.{reframe}
use Rattle.bf_word.proofs.Chain.{adds_aside}
use Rattle.bf_codes.specs.Exact.{start}

-- what is made aside is joined
pub made : {K : Tape → Type 0} {e : List ℕ → Tape → Tape} {m l : ℕ} {last : Piece} (p : Piece) → Adds (start p.cell) last K e m l → Adds p (joined p last.commands last.cell) K e m l
made {last = last} p a = adds_aside {T = Unit {0}} {E = Unit {0}} (Ok tt) p (joined p last.commands last.cell) refl refl a

pub goto_at : (p : Piece) (c : ℕ) → p.cell < 256 → c < 256 → Adds p (joined p (goto_code p.cell c) c) any (λ input s. s) 255 255
goto_at p c lh lc = adds_of p (goto_code p.cell c) c any (λ input s. s) 255 255 (simp (length-append, length-many) (omega arith)) (balanced_goto p.cell c) (λ input s is k. does_goto input p.cell c s 255 (omega arith))

pub clear_at : (p : Piece) (c : ℕ) → p.cell < 256 → c < 256 → Adds p (joined p (clear_code p.cell c) c) any (λ input s. put s c 0) 1024 258
clear_at p c lh lc = adds_of p (clear_code p.cell c) c any (λ input s. put s c 0) 1024 258 (simp (length-append, length-many) (omega arith)) (balanced_clear p.cell c) (λ input s is k. does_clear input p.cell c s lh lc)

pub add_at : (p : Piece) (c v : ℕ) → p.cell < 256 → c < 256 → v < 256 → Adds p (joined p (add_code p.cell c v) c) any (λ input s. put s c ((get s c + v) % 2 ^ 8)) 512 512
add_at p c v lh lc lv = adds_of p (add_code p.cell c v) c any (λ input s. put s c ((get s c + v) % 2 ^ 8)) 512 512 (simp (length-append, length-many) (omega (arith, length_more v lv))) (balanced_add p.cell c v) (λ input s is k. does_add input p.cell c v s lh lc lv)

pub move_at : (p : Piece) (from to : ℕ) → p.cell < 256 → from < 256 → to < 256 → from ≢ to → Adds p (joined p (move_code p.cell from to) from) any (λ input s. moved s from to) (2 ^ 18) 1024
move_at p from to lh lf lt differ = adds_of p (move_code p.cell from to) from any (λ input s. moved s from to) (2 ^ 18) 1024 (simp (length-append, length-many) (omega arith)) (balanced_move p.cell from to) (λ input s is k. does_move input p.cell from to s lh lf lt differ)

pub drain_at : (p : Piece) (from to : ℕ) → p.cell < 256 → from < 256 → to < 256 → from ≢ to → Adds p (joined p (drain_code p.cell from to) from) any (λ input s. drained s from to) (2 ^ 18) 1024
drain_at p from to lh lf lt differ = adds_of p (drain_code p.cell from to) from any (λ input s. drained s from to) (2 ^ 18) 1024 (simp (length-append, length-many) (omega arith)) (balanced_drain p.cell from to) (λ input s is k. does_drain input p.cell from to s lh lf lt differ)

pub dup_at : (p : Piece) (from to spare : ℕ) → p.cell < 256 → from < 256 → to < 256 → spare < 256 → from ≢ to → from ≢ spare → to ≢ spare → Adds p (joined p (dup_code p.cell from to spare) spare) (λ s. get s spare ≡ 0) (λ input s. doubled s from to) (2 ^ 20) 2048
dup_at p from to spare lh lf lt ls a b c =
    adds_of p (dup_code p.cell from to spare) spare (λ s. get s spare ≡ 0) (λ input s. doubled s from to) (2 ^ 20) 2048 (simp (length-append, length-many) (omega arith)) (balanced_dup p.cell from to spare) (λ input s is k. does_dup input p.cell from to spare s lh lf lt ls a b c k)

pub read_at : (p : Piece) (c : ℕ) → p.cell < 256 → c < 256 → Adds p (joined p (read_code p.cell c) c) any (λ input s. taken_in input s c) 256 256
read_at p c lh lc = adds_of p (read_code p.cell c) c any (λ input s. taken_in input s c) 256 256 (simp (length-append, length-many) (omega arith)) (balanced_read p.cell c) (λ input s is k. does_take input p.cell c s lh lc is)

pub write_at : (p : Piece) (c : ℕ) → p.cell < 256 → c < 256 → Adds p (joined p (write_code p.cell c) c) any (λ input s. written_out s c) 256 256
write_at p c lh lc = adds_of p (write_code p.cell c) c any (λ input s. written_out s c) 256 256 (simp (length-append, length-many) (omega arith)) (balanced_write p.cell c) (λ input s is k. does_put input p.cell c s lh lc)

pub rename_at : (p : Piece) (cell : ℕ) → Adds p (record { commands = p.commands; cell = cell }) (λ s. cell ≤ s.base + p.cell) (λ input s. renamed s p.cell cell) 0 0
rename_at p cell = record {
  added = [];
  commands = sym (append-nil p.commands);
  short = omega arith;
  balanced = refl;
  does = λ input s is room.
      let at : s.base + p.cell - cell + cell ≡ s.base + p.cell = omega (arith, room) in
      reframe cell (renamed s p.cell cell) (does_none input p.cell s) at refl refl refl;
}
