-- A memory that is laid down byte by byte.
use Rattle.std.proofs.Common.{◌≡◌, ◌⊎◌, inl, inr, ℕ, zero, suc, ◌<◌, true, false, cond, Option, None, Some, unwrap_or, refl, sym, ap, ◌∙◌, nat_eq, nat_lt, nat_cmp, arith}
use Rattle.std.specs.FinMap as map
use Rattle.std.specs.Cmp.{nat_cmp_total, unsigned_tied}
use Rattle.wasm_rule.specs.Memory.{ByteMap, byte_at, with_byte}
use Rattle.wasm_parts.specs.Inside.{bytes_below}

-- a byte as a map keeps it
abbrev kept : ℕ → Option ℕ
kept zero = None
kept (suc n) = Some (suc n)

kept_byte : (n : ℕ) → unwrap_or (kept n) 0 ≡ n
kept_byte zero = refl
kept_byte (suc n) = refl

get-with_byte : (m : ByteMap) (a n q : ℕ) → map.get (with_byte m a n) q ≡ cond (nat_eq q a) (kept n) (map.get m q)
get-with_byte m a zero q = map.get-remove nat_cmp_total m a q ∙ ap (λ b. cond b None (map.get m q)) (unsigned_tied q a)
get-with_byte m a (suc n) q =
    let test : nat_eq 0 (suc n) ≡ false = grind arith in
    ap (λ b. map.get (cond b (map.remove m a) (map.insert m a (suc n))) q) test
    ∙ (map.get-insert nat_cmp_total m a (suc n) q ∙ ap (λ b. cond b (Some (suc n)) (map.get m q)) (unsigned_tied q a))

order : (q n : ℕ) → (q < n) ⊎ ((q ≡ n) ⊎ (n < q))
order q n = grind arith

-- what it has at an address
get_below : (n : ℕ) (f : ℕ → ℕ) (q : ℕ) → map.get (bytes_below n f) q ≡ cond (nat_lt q n) (kept (f q)) None
unfolding bytes_below
get_below zero f q =
    let test : nat_lt q 0 ≡ false = grind arith in
    map.get-empty nat_cmp q ∙ sym (ap (λ b. cond b (kept (f q)) None) test)
get_below (suc n) f q = get-with_byte (bytes_below n f) n (f n) q ∙ (ap (λ o. cond (nat_eq q n) (kept (f n)) o) (get_below n f q) ∙ by (order q n)) where
  by : (q < n) ⊎ ((q ≡ n) ⊎ (n < q)) → cond (nat_eq q n) (kept (f n)) (cond (nat_lt q n) (kept (f q)) None) ≡ cond (nat_lt q (suc n)) (kept (f q)) None
  by (inl l) =
      let other : nat_eq q n ≡ false = grind arith in
      let low : nat_lt q n ≡ true = grind arith in
      let high : nat_lt q (suc n) ≡ true = grind arith in
      rw (other, low, high) refl
  by (inr (inl e)) =
      let same : nat_eq q n ≡ true = grind arith in
      let high : nat_lt q (suc n) ≡ true = grind arith in
      rw (same, high, e) refl
  by (inr (inr g)) =
      let other : nat_eq q n ≡ false = grind arith in
      let low : nat_lt q n ≡ false = grind arith in
      let high : nat_lt q (suc n) ≡ false = grind arith in
      rw (other, low, high) refl

pub byte_below : (n : ℕ) (f : ℕ → ℕ) (q : ℕ) → q < n → byte_at (bytes_below n f) q ≡ f q
byte_below n f q l =
    let low : nat_lt q n ≡ true = grind arith in
    ap (λ o. unwrap_or o 0) (get_below n f q ∙ ap (λ b. cond b (kept (f q)) None) low) ∙ kept_byte (f q)

low_or_not : (q n : ℕ) → (nat_lt q n ≡ true) ⊎ (nat_lt q n ≡ false)
low_or_not q n = grind arith

is_low : (q n : ℕ) → nat_lt q n ≡ true → q < n
is_low q n e = grind arith

-- the same bytes make the same memory
pub below_alike : (n : ℕ) (f g : ℕ → ℕ) → ((q : ℕ) → q < n → g q ≡ f q) → bytes_below n g ≡ bytes_below n f
below_alike n f g h = map.same_map nat_cmp_total map.nat_cmp-IsAntisymmetric (bytes_below n g) (bytes_below n f) (λ q. get_below n g q ∙ (by q (low_or_not q n) ∙ sym (get_below n f q))) where
  by : (q : ℕ) → (nat_lt q n ≡ true) ⊎ (nat_lt q n ≡ false) → cond (nat_lt q n) (kept (g q)) None ≡ cond (nat_lt q n) (kept (f q)) None
  by q (inl e) = ap (λ x. cond (nat_lt q n) (kept x) None) (h q (is_low q n e))
  by q (inr e) = rw e refl

-- bytes of 0 alone make the empty one
pub below_empty : (n : ℕ) (f : ℕ → ℕ) → ((q : ℕ) → q < n → f q ≡ 0) → bytes_below n f ≡ map.empty
below_empty n f h = map.same_map nat_cmp_total map.nat_cmp-IsAntisymmetric (bytes_below n f) map.empty (λ q. get_below n f q ∙ (by q (low_or_not q n) ∙ sym (map.get-empty nat_cmp q))) where
  by : (q : ℕ) → (nat_lt q n ≡ true) ⊎ (nat_lt q n ≡ false) → cond (nat_lt q n) (kept (f q)) None ≡ None
  by q (inl e) = rw e (ap kept (h q (is_low q n e)))
  by q (inr e) = rw e refl

-- with another byte at one address
pub below_changed : (n : ℕ) (f g : ℕ → ℕ) (a w : ℕ) → a < n → ((q : ℕ) → q < n → g q ≡ cond (nat_eq q a) w (f q)) → bytes_below n g ≡ with_byte (bytes_below n f) a w
below_changed n f g a w within h = map.same_map nat_cmp_total map.nat_cmp-IsAntisymmetric (bytes_below n g) (with_byte (bytes_below n f) a w) (λ q. get_below n g q ∙ (by q (order q a) (low_or_not q n) ∙ sym (get-with_byte (bytes_below n f) a w q ∙ ap (λ o. cond (nat_eq q a) (kept w) o) (get_below n f q)))) where
  by : (q : ℕ) → (q < a) ⊎ ((q ≡ a) ⊎ (a < q)) → (nat_lt q n ≡ true) ⊎ (nat_lt q n ≡ false) → cond (nat_lt q n) (kept (g q)) None ≡ cond (nat_eq q a) (kept w) (cond (nat_lt q n) (kept (f q)) None)
  by q (inr (inl e)) low =
      let same : nat_eq q a ≡ true = grind arith in
      let there : nat_lt q n ≡ true = grind arith in
      let l : q < n = omega arith in
      rw (there, same) (ap kept (h q l ∙ ap (λ b. cond b w (f q)) same))
  by q (inl l) (inl e) =
      let other : nat_eq q a ≡ false = grind arith in
      rw (e, other) (ap kept (h q (is_low q n e) ∙ ap (λ b. cond b w (f q)) other))
  by q (inl l) (inr e) =
      let other : nat_eq q a ≡ false = grind arith in
      rw (e, other) refl
  by q (inr (inr l)) (inl e) =
      let other : nat_eq q a ≡ false = grind arith in
      rw (e, other) (ap kept (h q (is_low q n e) ∙ ap (λ b. cond b w (f q)) other))
  by q (inr (inr l)) (inr e) =
      let other : nat_eq q a ≡ false = grind arith in
      rw (e, other) refl
