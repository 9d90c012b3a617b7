-- Scans along marks.
use Rattle.std.proofs.Common.{◌≡◌, ◌≢◌, ℕ, zero, suc, ◌+◌, ◌*◌, ◌<◌, List, refl, sym, ap, subst, ◌∙◌, arith}
use Rattle.bf_tape.specs.Tape.{Tape, get}
use Rattle.bf_tape.specs.Does.{Does, loop, Strides}
use Rattle.bf_tape.specs.Does.Strides.{Stand, Stride}
use Rattle.bf_tape.proofs.Moves.{does_strides, does_within}
use Rattle.bf_tape.proofs.Pieces.{does_rights, does_lefts}
use Rattle.bf_trail.specs.Trail.{right, left, TrailsAreWalked}
use Rattle.bf_columns.proofs.Tapes.{next, between}

strides_right : (input : List ℕ) (s : Tape) (n p : ℕ) → ((k : ℕ) → k < n → get s (p + 8 * k) ≢ 0) → get s (p + 8 * n) ≡ 0 → Strides input right p s (p + 8 * n) s (9 * n)
strides_right input s zero p on off =
    let e : p ≡ p + 8 * 0 = omega arith in
    subst (λ c. Strides input right p s c s (9 * 0)) e (Stand p s (ap (get s) e ∙ off))
strides_right input s (suc n) p on off =
    let e : p + 8 + 8 * n ≡ p + 8 * suc n = omega arith in
    let f : 8 + 1 + 9 * n ≡ 9 * suc n = omega arith in
    let g : p ≡ p + 8 * 0 = omega arith in
    subst (λ m. Strides input right p s (p + 8 * suc n) s m) f
    (Stride p (p + 8) (p + 8 * suc n) s s s 8 (9 * n) (λ z. on 0 (omega arith) (ap (get s) (sym g) ∙ z)) (does_rights input 8 p s)
    (subst (λ c. Strides input right (p + 8) s c s (9 * n)) e
    (strides_right input s n (p + 8) (λ k lt z. let i : p + 8 * suc k ≡ p + 8 + 8 * k = omega arith in on (suc k) (omega arith) (ap (get s) i ∙ z)) (ap (get s) e ∙ off))))

-- over so many marks to the right
pub scan_right : (input : List ℕ) (s : Tape) (n p : ℕ) → ((k : ℕ) → k < n → get s (p + 8 * k) ≢ 0) → get s (p + 8 * n) ≡ 0 → Does input (loop right) p s (p + 8 * n) s (9 * n + 1)
scan_right input s n p on off = does_strides {body = right} refl (strides_right input s n p on off)

strides_left : (input : List ℕ) (s : Tape) (n p : ℕ) → ((k : ℕ) → k < n → get s (p + 8 * suc k) ≢ 0) → get s p ≡ 0 → Strides input left (p + 8 * n) s p s (9 * n)
strides_left input s zero p on off =
    let e : p ≡ p + 8 * 0 = omega arith in
    subst (λ c. Strides input left c s p s (9 * 0)) e (Stand p s off)
strides_left input s (suc n) p on off =
    let e : p + 8 * n + 8 ≡ p + 8 * suc n = omega arith in
    let f : 8 + 1 + 9 * n ≡ 9 * suc n = omega arith in
    subst (λ m. Strides input left (p + 8 * suc n) s p s m) f
    (Stride (p + 8 * suc n) (p + 8 * n) p s s s 8 (9 * n) (on n (omega arith)) (between (p + 8 * suc n) (p + 8 * n) (does_lefts input 8 (p + 8 * n) s) e refl)
    (strides_left input s n p (λ k lt. on k (omega arith)) off))

-- over so many marks to the left
pub scan_left : (input : List ℕ) (s : Tape) (n p : ℕ) → ((k : ℕ) → k < n → get s (p + 8 * suc k) ≢ 0) → get s p ≡ 0 → Does input (loop left) (p + 8 * n) s p s (9 * n + 1)
scan_left input s n p on off = does_strides {body = left} refl (strides_left input s n p on off)

pub trail_walked : TrailsAreWalked
trail_walked input s h n trail = record {
  out =
      let e : h + 8 + 8 * n ≡ h + 8 * (n + 1) = omega arith in
      let f : (k : ℕ) → h + 8 * (k + 1) ≡ h + 8 + 8 * k = λ k. omega arith in
      does_within (9 * (n + 1))
      (between h (h + 8 * (n + 1)) (next (does_rights input 8 h s)
      (scan_right input s n (h + 8) (λ k lt z. absurd (omega (arith, trail.marks k lt, ap (get s) (f k), z))) (ap (get s) (sym (f n)) ∙ trail.end))) refl e) (omega arith);
  back =
      let e : h + 8 * n + 8 ≡ h + 8 * (n + 1) = omega arith in
      let f : (k : ℕ) → h + 8 * (k + 1) ≡ h + 8 * suc k = λ k. omega arith in
      does_within (9 * (n + 1))
      (between (h + 8 * (n + 1)) h (next (does_lefts input 8 (h + 8 * n) s)
      (scan_left input s n h (λ k lt z. absurd (omega (arith, trail.marks k lt, ap (get s) (f k), z))) trail.before)) e refl) (omega arith);
}
