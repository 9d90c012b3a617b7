-- The exact commands of the calls on words.
use Rattle.std.proofs.Common.{◌≡◌, ◌≢◌, ℕ, ◌+◌, ◌-◌, ◌*◌, ◌/◌, ◌%◌, ◌^◌, ◌<◌, inl, inr, nat_eq, cond, refl, arith}
use Rattle.bf_tape.specs.Tape.{get, put}
use Rattle.bf_tape.specs.Piece.{Piece, joined, Adds, any}
use Rattle.bf_word.specs.Word.{word_in, with_word, carried_word, lifted_by, lifted_once, lowered_by, lowered_once, bytes_raised, IsCounter, IsApart, IsBeyond, AreDistinct, IsOutside}
use Rattle.bf_word.specs.WordCode.{dup_word_code, move_word_code, drain_word_code, clear_word_code, set_code, lower_code, lift_code, once_code, raise_code, add_bytes_code, opposite, equals_code}
use Rattle.bf_word.proofs.Calls.{lift_adds, lower_adds, once_adds, raise_adds, dup_adds, move_adds, drain_adds, clear_adds, set_adds}
use Rattle.bf_word.proofs.Told.{bytes_adds, equals_adds}
use Rattle.bf_codes.specs.Exact.{start}
use Rattle.bf_codes.proofs.Parts.{made, clear_at, add_at, move_at, drain_at, dup_at}

differ : (a b i : ℕ) → i < 3 → AreDistinct a b → a + i ≢ b + i
differ a b i li (inl h) = omega arith
differ a b i li (inr h) = omega arith

beside : (c w i : ℕ) → i < 3 → IsOutside c w → w + i ≢ c
beside c w i li (inl h) = omega arith
beside c w i li (inr h) = omega arith

first_differ : (a b : ℕ) → AreDistinct a b → a ≢ b
first_differ a b (inl h) = omega arith
first_differ a b (inr h) = omega arith

first_beside : (c w : ℕ) → IsOutside c w → w ≢ c
first_beside c w (inl h) = omega arith
first_beside c w (inr h) = omega arith

pub clear_word_at : (p : Piece) (w : ℕ) → p.cell < 256 → w < 254 → Adds p (joined p (clear_word_code p.cell w) (w + 2)) any (λ input s. with_word s w 0) (3 * 2 ^ 10) (3 * 2 ^ 9)
clear_word_at p w lp lw = made p (clear_adds w (clear_at (start p.cell) w lp (omega arith)) (clear_at _ (w + 1) (omega arith) (omega arith)) (clear_at _ (w + 2) (omega arith) (omega arith)))

pub dup_word_at : (p : Piece) (from to spare : ℕ) → p.cell < 256 → from < 254 → to < 254 → spare < 256 → AreDistinct from to → IsOutside spare from → IsOutside spare to
    → Adds p (joined p (dup_word_code p.cell from to spare) spare) (λ s. (word_in s to ≡ 0) × (get s spare ≡ 0)) (λ input s. with_word s to (word_in s from)) (3 * 2 ^ 20) (3 * 2 ^ 11)
dup_word_at p from to spare lp lf lt ls distinct a b =
    made p (dup_adds from to distinct spare b (dup_at (start p.cell) from to spare lp (omega arith) (omega arith) ls (first_differ from to distinct) (first_beside spare from a) (first_beside spare to b))
    (dup_at _ (from + 1) (to + 1) spare ls (omega arith) (omega arith) ls (differ from to 1 (omega arith) distinct) (beside spare from 1 (omega arith) a) (beside spare to 1 (omega arith) b))
    (dup_at _ (from + 2) (to + 2) spare ls (omega arith) (omega arith) ls (differ from to 2 (omega arith) distinct) (beside spare from 2 (omega arith) a) (beside spare to 2 (omega arith) b)))

pub move_word_at : (p : Piece) (from to : ℕ) → p.cell < 256 → from < 254 → to < 254 → AreDistinct from to → Adds p (joined p (move_word_code p.cell from to) (from + 2)) (λ s. word_in s to ≡ 0) (λ input s. carried_word from to s) (3 * 2 ^ 18) (3 * 2 ^ 10)
move_word_at p from to lp lf lt distinct =
    made p (move_adds from to distinct (move_at (start p.cell) from to lp (omega arith) (omega arith) (first_differ from to distinct))
    (move_at _ (from + 1) (to + 1) (omega arith) (omega arith) (omega arith) (differ from to 1 (omega arith) distinct))
    (move_at _ (from + 2) (to + 2) (omega arith) (omega arith) (omega arith) (differ from to 2 (omega arith) distinct)))

pub drain_word_at : (p : Piece) (from to : ℕ) → p.cell < 256 → from < 254 → to < 254 → AreDistinct from to
    → Adds p (joined p (drain_word_code p.cell from to) (from + 2)) (λ s. word_in s to ≡ 2 ^ 24 - 1) (λ input s. with_word (with_word s to (2 ^ 24 - 1 - word_in s from)) from 0) (3 * 2 ^ 18) (3 * 2 ^ 10)
drain_word_at p from to lp lf lt distinct =
    made p (drain_adds from to distinct (drain_at (start p.cell) from to lp (omega arith) (omega arith) (first_differ from to distinct))
    (drain_at _ (from + 1) (to + 1) (omega arith) (omega arith) (omega arith) (differ from to 1 (omega arith) distinct))
    (drain_at _ (from + 2) (to + 2) (omega arith) (omega arith) (omega arith) (differ from to 2 (omega arith) distinct)))

pub set_at : (p : Piece) (w n : ℕ) → p.cell < 256 → w < 254 → Adds p (joined p (set_code p.cell w n) (w + 2)) any (λ input s. with_word s w n) (2 ^ 13) (2 ^ 12)
set_at p w n lp lw =
    made p (set_adds w n n refl (clear_at (start p.cell) w lp (omega arith)) (add_at _ w (n % 256) (omega arith) (omega arith) (omega arith)) (clear_at _ (w + 1) (omega arith) (omega arith)) (add_at _ (w + 1) (n / 256 % 256) (omega arith) (omega arith) (omega arith))
    (clear_at _ (w + 2) (omega arith) (omega arith)) (add_at _ (w + 2) (n / 65536 % 256) (omega arith) (omega arith) (omega arith)))

pub lift_at : (p : Piece) (w g : ℕ) → p.cell < 256 → w < 247 → g < 254 → IsApart g w → Adds p (joined p (lift_code p.cell w g) (g + 2)) (IsCounter w) (λ input s. lifted_by w g s) (2 ^ 20) (2 ^ 12)
lift_at p w g lp lw lg apart = lift_adds p w g lp lw lg apart

pub lower_at : (p : Piece) (w g : ℕ) → p.cell < 256 → w < 247 → g < 254 → IsApart g w → Adds p (joined p (lower_code p.cell w g) (g + 2)) (IsCounter w) (λ input s. lowered_by w g s) (2 ^ 20) (2 ^ 12)
lower_at p w g lp lw lg apart = lower_adds p w g lp lw lg apart

pub once_at : (p : Piece) (w : ℕ) → p.cell < 256 → w < 247 → Adds p (joined p (once_code p.cell w) w) (IsCounter w) (λ input s. lowered_once w s) 512 512
once_at p w lp lw = once_adds p w lp lw

raise_at : (p : Piece) (w : ℕ) → p.cell < 256 → w < 247 → Adds p (joined p (raise_code p.cell w) w) (IsCounter w) (λ input s. lifted_once w s) 512 512
raise_at p w lp lw = raise_adds p w lp lw

add_bytes_at : (p : Piece) (w a b c : ℕ) → p.cell < 256 → w < 254 → a < 256 → b < 256 → c < 256 → Adds p (joined p (add_bytes_code p.cell w a b c) (w + 2)) any (λ input s. with_word s w (bytes_raised (word_in s w) a b c)) 1536 1536
add_bytes_at p w a b c lp lw la lb lc =
    made p (bytes_adds w a b c (add_at (start p.cell) w a lp (omega arith) la) (add_at _ (w + 1) b (omega arith) (omega arith) lb) (add_at _ (w + 2) c (omega arith) (omega arith) lc))

apart_from : (flag w : ℕ) → IsBeyond flag w → w + 9 ≢ flag
apart_from flag w (inl h) = omega arith
apart_from flag w (inr h) = omega arith

pub equals_at : (p : Piece) (w n flag : ℕ) → p.cell < 256 → w < 247 → flag < 256 → IsBeyond flag w → n < 2 ^ 24
    → Adds p (joined p (equals_code p.cell w n flag) (w + 2)) (λ s. IsCounter w s × (get s flag ≡ 0)) (λ input s. put s flag (cond (nat_eq (word_in s w) n) 1 0)) (2 ^ 19) (2 ^ 13)
equals_at p w n flag lp lw lf beyond ln =
    let a : ℕ = opposite (n % 256) in
    let b : ℕ = opposite (n / 256 % 256) in
    let c : ℕ = opposite (n / 65536 % 256) in
    let x : ℕ = n % 256 in
    let y : ℕ = n / 256 % 256 in
    let z : ℕ = n / 65536 % 256 in
    made p (equals_adds w flag n beyond ln a b c refl refl refl x y z refl refl refl
    (add_bytes_at (start p.cell) w a b c lp (omega arith) (omega arith) (omega arith) (omega arith))
    (once_at _ w (omega arith) lw)
    (move_at _ (w + 9) flag (omega arith) (omega arith) lf (apart_from flag w beyond))
    (raise_at _ w (omega arith) lw)
    (add_bytes_at _ w x y z (omega arith) (omega arith) (omega arith) (omega arith) (omega arith)))
