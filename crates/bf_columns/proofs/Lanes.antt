-- Digits in a lane.
use Rattle.std.proofs.Common.{◌≡◌, ◌≢◌, ℕ, zero, suc, ◌<◌, ◌≤◌, Bool, true, false, nat_eq, cond, refl, sym, ap, subst, ◌∙◌, arith, eq-eqb, ne_eqb}
use Rattle.std.proofs.lemmas.Bool.{eqb-true, eqb-false}
use Rattle.bf_tape.specs.Tape.{Tape, get, put, set_cell}
use Rattle.bf_tape.proofs.Turning.{get_put, get_other}
use Rattle.bf_columns.specs.Lanes.{lane_cell, laned}
use Rattle.bf_columns.proofs.Tapes.{put_same, put_swap}

pub fun_ext : {f g : ℕ → ℕ} → ((k : ℕ) → f k ≡ g k) → f ≡ g
fun_ext h = λ i k. h k i

pub set_at : (x : ℕ → ℕ) (p v : ℕ) → set_cell x p v p ≡ v
set_at x p v = ap (λ t. cond t v (x p)) (eq-eqb p p refl)

pub set_other : (x : ℕ → ℕ) (p v q : ℕ) → q ≢ p → set_cell x p v q ≡ x q
set_other x p v q differ = ap (λ t. cond t v (x q)) (ne_eqb q p differ)

-- digits in their cells
pub laned_ext : (l : ℕ) (s : Tape) (x y : ℕ → ℕ) (m : ℕ) → ((k : ℕ) → k < m → x k ≡ y k) → laned l s x m ≡ laned l s y m
laned_ext l s x y zero same = refl
laned_ext l s x y (suc m) same = λ i. put (laned_ext l s x y m (λ k lt. same k (omega arith)) i) (lane_cell l m) (same m (omega arith) i)

pub get_laned_other : (l : ℕ) (s : Tape) (x : ℕ → ℕ) (m c : ℕ) → ((k : ℕ) → k < m → lane_cell l k ≢ c) → get (laned l s x m) c ≡ get s c
get_laned_other l s x zero c off = refl
get_laned_other l s x (suc m) c off = get_other (laned l s x m) (lane_cell l m) c (x m) (off m (omega arith)) ∙ get_laned_other l s x m c (λ k lt. off k (omega arith))

pub get_laned : (l : ℕ) (s : Tape) (x : ℕ → ℕ) (m j : ℕ) → m ≤ 12 → j < m → get (laned l s x m) (lane_cell l j) ≡ x j
get_laned l s x zero j le lt = absurd (omega arith)
get_laned l s x (suc m) j le lt = elim (nat_eq m j) as (λ t. nat_eq m j ≡ t → get (laned l s x (suc m)) (lane_cell l j) ≡ x j) [
  | true ↦ λ e. let at : m ≡ j = eqb-true m j e in subst (λ i. get (laned l s x (suc m)) (lane_cell l i) ≡ x i) at (get_put (laned l s x m) (lane_cell l m) (x m))
  | false ↦ λ e. let differ : m ≢ j = eqb-false m j e in get_other (laned l s x m) (lane_cell l m) (lane_cell l j) (x m) (λ f. differ (omega arith)) ∙ get_laned l s x m j (omega arith) (omega arith)
] refl

pub put_laned : (l : ℕ) (s : Tape) (x : ℕ → ℕ) (m j v : ℕ) → m ≤ 12 → j < m → put (laned l s x m) (lane_cell l j) v ≡ laned l s (set_cell x j v) m
put_laned l s x zero j v le lt = absurd (omega arith)
put_laned l s x (suc m) j v le lt = elim (nat_eq m j) as (λ t. nat_eq m j ≡ t → put (laned l s x (suc m)) (lane_cell l j) v ≡ laned l s (set_cell x j v) (suc m)) [
  | true ↦ λ e.
      let at : m ≡ j = eqb-true m j e in
      let here : put (laned l s x (suc m)) (lane_cell l m) v ≡ laned l s (set_cell x m v) (suc m) =
      put_same (laned l s x m) (lane_cell l m) (x m) v ∙ (λ i. put (laned_ext l s x (set_cell x m v) m (λ k less. sym (set_other x m v k (λ f. absurd (omega arith)))) i) (lane_cell l m) (sym (set_at x m v) i)) in
      subst (λ k. put (laned l s x (suc m)) (lane_cell l k) v ≡ laned l s (set_cell x k v) (suc m)) at here
  | false ↦ λ e.
      let differ : m ≢ j = eqb-false m j e in
      put_swap (laned l s x m) (lane_cell l m) (lane_cell l j) (x m) v (λ f. differ (omega arith))
      ∙ (λ i. put (put_laned l s x m j v (omega arith) (omega arith) i) (lane_cell l m) (sym (set_other x j v m differ) i))
] refl

pub set_again : (x : ℕ → ℕ) (p v w : ℕ) → set_cell (set_cell x p v) p w ≡ set_cell x p w
set_again x p v w = fun_ext (λ k. twice (nat_eq k p) k)
  where
    twice : (t : Bool) (k : ℕ) → cond t w (cond t v (x k)) ≡ cond t w (x k)
    twice true k = refl
    twice false k = refl
