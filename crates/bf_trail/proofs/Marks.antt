-- Tapes with marks laid.
use Rattle.std.proofs.Common.{◌≡◌, ◌≢◌, ℕ, zero, suc, ◌+◌, ◌*◌, ◌<◌, true, false, nat_eq, refl, sym, ap, subst, ◌∙◌, arith}
use Rattle.std.proofs.lemmas.Bool.{eqb-true, eqb-false}
use Rattle.bf_tape.specs.Tape.{Tape, get, put}
use Rattle.bf_tape.proofs.Turning.{get_put, get_other}
use Rattle.bf_trail.specs.Trail.{laid, IsBlank}
use Rattle.bf_columns.proofs.Tapes.{put_swap}

-- marks don't touch other cells
pub get_laid_other : (s : Tape) (h n c : ℕ) → ((k : ℕ) → k < n → h + 8 * k ≢ c) → get (laid s h n) c ≡ get s c
get_laid_other s h zero c off = refl
get_laid_other s h (suc n) c off = get_other (laid s h n) (h + 8 * n) c 1 (off n (omega arith)) ∙ get_laid_other s h n c (λ k lt. off k (omega arith))

pub get_laid : (s : Tape) (h n k : ℕ) → k < n → get (laid s h n) (h + 8 * k) ≡ 1
get_laid s h zero k lt = absurd (omega arith)
get_laid s h (suc n) k lt = elim (nat_eq n k) as (λ t. nat_eq n k ≡ t → get (laid s h (suc n)) (h + 8 * k) ≡ 1) [
  | true ↦ λ e. let at : n ≡ k = eqb-true n k e in subst (λ j. get (laid s h (suc n)) (h + 8 * j) ≡ 1) at (get_put (laid s h n) (h + 8 * n) 1)
  | false ↦ λ e. let differ : n ≢ k = eqb-false n k e in get_other (laid s h n) (h + 8 * n) (h + 8 * k) 1 (λ f. differ (omega arith)) ∙ get_laid s h n k (omega arith)
] refl

-- a cell beside the marks, put before or after them
pub laid_put : (s : Tape) (h n c v : ℕ) → ((k : ℕ) → k < n → h + 8 * k ≢ c) → laid (put s c v) h n ≡ put (laid s h n) c v
laid_put s h zero c v off = refl
laid_put s h (suc n) c v off = ap (λ t. put t (h + 8 * n) 1) (laid_put s h n c v (λ k lt. off k (omega arith))) ∙ put_swap (laid s h n) c (h + 8 * n) v 1 (λ e. off n (omega arith) (sym e))

-- the first mark laid last
pub laid_front : (s : Tape) (h n : ℕ) → laid s h (suc n) ≡ put (laid s (h + 8) n) h 1
laid_front s h zero = let e : h + 8 * 0 ≡ h = omega arith in ap (λ c. put s c 1) e
laid_front s h (suc n) =
    let e : h + 8 + 8 * n ≡ h + 8 * suc n = omega arith in
    ap (λ t. put t (h + 8 * suc n) 1) (laid_front s h n)
    ∙ (put_swap (laid s (h + 8) n) h (h + 8 * suc n) 1 1 (λ e. absurd (omega arith)) ∙ ap (λ c. put (put (laid s (h + 8) n) c 1) h 1) (sym e))

-- more marks after marks
pub laid_more : (s : Tape) (h n k : ℕ) → laid (laid s h n) (h + 8 * n) k ≡ laid s h (n + k)
laid_more s h n zero = let e : n ≡ n + 0 = omega arith in ap (λ m. laid s h m) e
laid_more s h n (suc k) =
    let e : h + 8 * n + 8 * k ≡ h + 8 * (n + k) = omega arith in
    let f : suc (n + k) ≡ n + suc k = omega arith in
    (λ i. put (laid_more s h n k i) (e i) 1) ∙ ap (λ m. laid s h m) f

pub blank_on : (s : Tape) (h n : ℕ) → IsBlank s h → IsBlank (laid s h n) (h + 8 * n)
blank_on s h n blank = record {
  at = λ k.
      let e : h + 4 * (2 * n + k) ≡ h + 8 * n + 4 * k = omega arith in
      get_laid_other s h n (h + 8 * n + 4 * k) (λ j lt f. absurd (omega arith)) ∙ subst (λ c. get s c ≡ 0) e (blank.at (2 * n + k));
}
