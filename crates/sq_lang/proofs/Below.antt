-- Cells that are laid down one by one.
use Rattle.std.proofs.Common.{◌≡◌, ◌≢◌, ◌⊎◌, inl, inr, ℕ, zero, suc, ◌<◌, Bool, true, false, cond, Option, None, Some, unwrap_or, ℤ, pos, negsuc, refl, sym, ap, ◌∙◌, nat_eq, nat_lt, nat_cmp, arith}
use Rattle.std.specs.FinMap as map
use Rattle.std.specs.Cmp.{nat_cmp_total, unsigned_tied}
use Rattle.std.proofs.lemmas.Bool.{cases_eq}
use Rattle.mach_core.specs.Integer.{is_zero}
use Rattle.sq_lang.specs.Step.{CellMap, cell_at, with_cell}
use Rattle.sq_lang.specs.Pages.{cells_below}

-- a cell as a map keeps it
abbrev kept : ℤ → Option ℤ
kept z = cond (is_zero z) None (Some z)

kept_cell : (z : ℤ) → unwrap_or (kept z) (pos 0) ≡ z
kept_cell (pos zero) = refl
kept_cell (pos (suc n)) = refl
kept_cell (negsuc n) = refl

get-with_cell : (m : CellMap) (a : ℕ) (z : ℤ) (q : ℕ) → map.get (with_cell m a z) q ≡ cond (nat_eq q a) (kept z) (map.get m q)
get-with_cell m a z q = by (is_zero z) where
  by : (b : Bool) → map.get (cond b (map.remove m a) (map.insert m a z)) q ≡ cond (nat_eq q a) (cond b None (Some z)) (map.get m q)
  by true = map.get-remove nat_cmp_total m a q ∙ ap (λ b. cond b None (map.get m q)) (unsigned_tied q a)
  by false = map.get-insert nat_cmp_total m a z q ∙ ap (λ b. cond b (Some z) (map.get m q)) (unsigned_tied q a)

is_eq : (q a : ℕ) → q ≡ a → nat_eq q a ≡ true
is_eq q a e = grind arith

not_eq : (q a : ℕ) → q ≢ a → nat_eq q a ≡ false
not_eq q a ne = grind arith

-- what was put last is what stands there, and cells at two addresses can be put in either order
pub with_cell-swap : (m : CellMap) (a b : ℕ) (x y : ℤ) → a ≢ b → with_cell (with_cell m a x) b y ≡ with_cell (with_cell m b y) a x
with_cell-swap m a b x y other = map.same_map nat_cmp_total map.nat_cmp-IsAntisymmetric (with_cell (with_cell m a x) b y) (with_cell (with_cell m b y) a x) (λ q.
    get-with_cell (with_cell m a x) b y q ∙ (ap (λ o. cond (nat_eq q b) (kept y) o) (get-with_cell m a x q)
    ∙ (by q (cases_eq q a)
    ∙ sym (get-with_cell (with_cell m b y) a x q ∙ ap (λ o. cond (nat_eq q a) (kept x) o) (get-with_cell m b y q))))) where
      by : (q : ℕ) → (q ≡ a) ⊎ (q ≢ a) → cond (nat_eq q b) (kept y) (cond (nat_eq q a) (kept x) (map.get m q)) ≡ cond (nat_eq q a) (kept x) (cond (nat_eq q b) (kept y) (map.get m q))
      by q (inl e) =
          let here : nat_eq q a ≡ true = is_eq q a e in
          let there : nat_eq q b ≡ false = not_eq q b (λ f. other (sym e ∙ f)) in
          rw (here, there) refl
      by q (inr ne) = rw (not_eq q a ne) refl

order : (q n : ℕ) → (q < n) ⊎ ((q ≡ n) ⊎ (n < q))
order q n = grind arith

-- what it has at an address
get_below : (n : ℕ) (f : ℕ → ℤ) (q : ℕ) → map.get (cells_below n f) q ≡ cond (nat_lt q n) (kept (f q)) None
unfolding cells_below
get_below zero f q =
    let test : nat_lt q 0 ≡ false = grind arith in
    map.get-empty nat_cmp q ∙ sym (ap (λ b. cond b (kept (f q)) None) test)
get_below (suc n) f q = get-with_cell (cells_below n f) n (f n) q ∙ (ap (λ o. cond (nat_eq q n) (kept (f n)) o) (get_below n f q) ∙ by (order q n)) where
  by : (q < n) ⊎ ((q ≡ n) ⊎ (n < q)) → cond (nat_eq q n) (kept (f n)) (cond (nat_lt q n) (kept (f q)) None) ≡ cond (nat_lt q (suc n)) (kept (f q)) None
  by (inl l) =
      let other : nat_eq q n ≡ false = grind arith in
      let low : nat_lt q n ≡ true = grind arith in
      let high : nat_lt q (suc n) ≡ true = grind arith in
      rw (other, low, high) refl
  by (inr (inl e)) =
      let same : nat_eq q n ≡ true = grind arith in
      let high : nat_lt q (suc n) ≡ true = grind arith in
      rw (same, high, e) refl
  by (inr (inr g)) =
      let other : nat_eq q n ≡ false = grind arith in
      let low : nat_lt q n ≡ false = grind arith in
      let high : nat_lt q (suc n) ≡ false = grind arith in
      rw (other, low, high) refl

pub cell_below : (n : ℕ) (f : ℕ → ℤ) (q : ℕ) → q < n → cell_at (cells_below n f) q ≡ f q
cell_below n f q l =
    let low : nat_lt q n ≡ true = grind arith in
    ap (λ o. unwrap_or o (pos 0)) (get_below n f q ∙ ap (λ b. cond b (kept (f q)) None) low) ∙ kept_cell (f q)

low_or_not : (q n : ℕ) → (nat_lt q n ≡ true) ⊎ (nat_lt q n ≡ false)
low_or_not q n = grind arith

is_low : (q n : ℕ) → nat_lt q n ≡ true → q < n
is_low q n e = grind arith

-- the same cells make the same map
pub below_alike : (n : ℕ) (f g : ℕ → ℤ) → ((q : ℕ) → q < n → g q ≡ f q) → cells_below n g ≡ cells_below n f
below_alike n f g h = map.same_map nat_cmp_total map.nat_cmp-IsAntisymmetric (cells_below n g) (cells_below n f) (λ q. get_below n g q ∙ (by q (low_or_not q n) ∙ sym (get_below n f q))) where
  by : (q : ℕ) → (nat_lt q n ≡ true) ⊎ (nat_lt q n ≡ false) → cond (nat_lt q n) (kept (g q)) None ≡ cond (nat_lt q n) (kept (f q)) None
  by q (inl e) = ap (λ x. cond (nat_lt q n) (kept x) None) (h q (is_low q n e))
  by q (inr e) = rw e refl

-- cells of 0 alone make the empty one
pub below_empty : (n : ℕ) (f : ℕ → ℤ) → ((q : ℕ) → q < n → f q ≡ pos 0) → cells_below n f ≡ map.empty
below_empty n f h = map.same_map nat_cmp_total map.nat_cmp-IsAntisymmetric (cells_below n f) map.empty (λ q. get_below n f q ∙ (by q (low_or_not q n) ∙ sym (map.get-empty nat_cmp q))) where
  by : (q : ℕ) → (nat_lt q n ≡ true) ⊎ (nat_lt q n ≡ false) → cond (nat_lt q n) (kept (f q)) None ≡ None
  by q (inl e) = rw e (ap kept (h q (is_low q n e)))
  by q (inr e) = rw e refl

-- with another cell at one address
pub below_changed : (n : ℕ) (f g : ℕ → ℤ) (a : ℕ) (z : ℤ) → a < n → ((q : ℕ) → q < n → g q ≡ cond (nat_eq q a) z (f q)) → cells_below n g ≡ with_cell (cells_below n f) a z
below_changed n f g a z within h = map.same_map nat_cmp_total map.nat_cmp-IsAntisymmetric (cells_below n g) (with_cell (cells_below n f) a z) (λ q. get_below n g q ∙ (by q (cases_eq q a) (low_or_not q n) ∙ sym (get-with_cell (cells_below n f) a z q ∙ ap (λ o. cond (nat_eq q a) (kept z) o) (get_below n f q)))) where
  by : (q : ℕ) → (q ≡ a) ⊎ (q ≢ a) → (nat_lt q n ≡ true) ⊎ (nat_lt q n ≡ false) → cond (nat_lt q n) (kept (g q)) None ≡ cond (nat_eq q a) (kept z) (cond (nat_lt q n) (kept (f q)) None)
  by q (inl e) low =
      let same : nat_eq q a ≡ true = is_eq q a e in
      let there : nat_lt q n ≡ true = grind arith in
      let l : q < n = is_low q n there in
      rw (there, same) (ap kept (h q l ∙ ap (λ b. cond b z (f q)) same))
  by q (inr ne) (inl e) =
      let other : nat_eq q a ≡ false = not_eq q a ne in
      rw (e, other) (ap kept (h q (is_low q n e) ∙ ap (λ b. cond b z (f q)) other))
  by q (inr ne) (inr e) = rw (e, not_eq q a ne) refl
