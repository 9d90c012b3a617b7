-- Words of memory in pairs.
use Rattle.std.proofs.Common.{◌≡◌, ◌≢◌, ℕ, zero, suc, ◌+◌, ◌-◌, ◌*◌, ◌/◌, ◌^◌, ◌<◌, ◌≤◌, ◌⊎◌, inl, inr, Bool, true, false, cond, List, [], ◌∷◌, ◌++◌, length, pos, ℤ, refl, sym, ap, subst, ◌∙◌, arith, append_assoc}
use Rattle.std.specs.Prelude.{nat_lt, nat_le, nat_eq}
use Rattle.std.proofs.lemmas.Bool.Decides.{nat_tests}
use Rattle.std.proofs.lemmas.List.{length-append}
use Rattle.word24.specs.Word.{near, is_high}
use Rattle.piet_stack.specs.Stack.{pairs, place_of}
use Rattle.piet_stack.proofs.Effects.{bit}

pub length-pairs : (word : ℕ → ℕ) (n : ℕ) → length (pairs word n) ≡ 2 * n
length-pairs word zero = refl
length-pairs word (suc n) = let f = length-append (pairs word n) (pos (word n) ∷ pos (word (2 ^ 24 - 1 - n)) ∷ []) in let g = length-pairs word n in omega (arith, f, g)

-- memories that have the same words up to there
pub pairs_same : (word word' : ℕ → ℕ) (n : ℕ) → n ≤ 2 ^ 23 → ((u : ℕ) → u < 2 ^ 24 → near u < n → word u ≡ word' u) → pairs word n ≡ pairs word' n
pairs_same word word' zero few agree = refl
pairs_same word word' (suc n) few agree =
    let low : word n ≡ word' n = agree n (omega (arith, few)) (omega (arith, few)) in
    let high : word (2 ^ 24 - 1 - n) ≡ word' (2 ^ 24 - 1 - n) = agree (2 ^ 24 - 1 - n) (omega (arith, few)) (omega (arith, few)) in
    ap (λ (xs : List ℤ). xs ++ pos (word n) ∷ pos (word (2 ^ 24 - 1 - n)) ∷ []) (pairs_same word word' n (omega (arith, few)) (λ u w h. agree u w (omega (arith, h))))
    ∙ (ap (λ k. pairs word' n ++ pos k ∷ pos (word (2 ^ 24 - 1 - n)) ∷ []) low ∙ ap (λ k. pairs word' n ++ pos (word' n) ∷ pos k ∷ []) high)

-- the words before one and behind it, of all memories that differ there alone
pub record Parts (word : ℕ → ℕ) (v n : ℕ) : Type 0 where
  pub before : List ℤ
  pub after : List ℤ
  pub here : length before ≡ place_of v
  pub whole : (word' : ℕ → ℕ) → ((u : ℕ) → u ≢ v → word u ≡ word' u) → pairs word' n ≡ before ++ pos (word' v) ∷ after

place_low : (v n : ℕ) → v ≡ n → n < 2 ^ 23 → place_of v ≡ 2 * n
place_low v n e h = let t : is_high v ≡ false = grind (arith, nat_tests) in rw t (omega (arith, e, h))

place_high : (v n : ℕ) → v ≡ 2 ^ 24 - 1 - n → n < 2 ^ 23 → place_of v ≡ 2 * n + 1
place_high v n e h = let t : is_high v ≡ true = grind (arith, nat_tests) in rw t (omega (arith, e, h))

three : (v n : ℕ) → v < 2 ^ 24 → near v < suc n → n < 2 ^ 23 → (near v < n) ⊎ ((v ≡ n) ⊎ (v ≡ 2 ^ 24 - 1 - n))
three v n w h few = grind arith

pub parted : (word : ℕ → ℕ) (v n : ℕ) → v < 2 ^ 24 → n ≤ 2 ^ 23 → near v < n → Parts word v n
parted word v zero w few h = absurd (omega arith)
parted word v (suc n) w few h = by (λ less. parted word v n w (omega (arith, few)) less) (three v n w h (omega (arith, few)))
  where
    other : 2 ^ 24 - 1 - n ≢ n
    other e = omega (arith, e, few)

    by : (near v < n → Parts word v n) → (near v < n) ⊎ ((v ≡ n) ⊎ (v ≡ 2 ^ 24 - 1 - n)) → Parts word v (suc n)
    by inner (inl less) =
        let p = inner less in
        let last = pos (word n) ∷ pos (word (2 ^ 24 - 1 - n)) ∷ [] in
        record {
          before = p.before;
          after = p.after ++ last;
          here = p.here;
          whole = λ word' agree.
              let low : n ≢ v = λ e. omega (arith, e, less, few) in
              let high : 2 ^ 24 - 1 - n ≢ v = λ e. omega (arith, e, less, few) in
              ap (λ (xs : List ℤ). xs ++ pos (word' n) ∷ pos (word' (2 ^ 24 - 1 - n)) ∷ []) (p.whole word' agree)
              ∙ (ap (λ k. (p.before ++ pos (word' v) ∷ p.after) ++ pos k ∷ pos (word' (2 ^ 24 - 1 - n)) ∷ []) (sym (agree n low))
              ∙ (ap (λ k. (p.before ++ pos (word' v) ∷ p.after) ++ pos (word n) ∷ pos k ∷ []) (sym (agree (2 ^ 24 - 1 - n) high))
              ∙ append_assoc p.before (pos (word' v) ∷ p.after) last));
        }
    by inner (inr (inl is)) = record {
      before = pairs word n;
      after = pos (word (2 ^ 24 - 1 - n)) ∷ [];
      here = length-pairs word n ∙ sym (place_low v n is (omega (arith, few)));
      whole = λ word' agree.
          ap (λ (xs : List ℤ). xs ++ pos (word' n) ∷ pos (word' (2 ^ 24 - 1 - n)) ∷ []) (sym (pairs_same word word' n (omega (arith, few)) (λ u wu hu. agree u (λ e. omega (arith, e, is, hu, few)))))
          ∙ (ap (λ k. pairs word n ++ pos (word' k) ∷ pos (word' (2 ^ 24 - 1 - n)) ∷ []) (sym is)
          ∙ ap (λ k. pairs word n ++ pos (word' v) ∷ pos k ∷ []) (sym (agree (2 ^ 24 - 1 - n) (λ e. other (e ∙ is)))));
    }
    by inner (inr (inr is)) = record {
      before = pairs word n ++ pos (word n) ∷ [];
      after = [];
      here = let f = length-append (pairs word n) (pos (word n) ∷ []) in let g = length-pairs word n in let p = place_high v n is (omega (arith, few)) in omega (arith, f, g, p);
      whole = λ word' agree.
          ap (λ (xs : List ℤ). xs ++ pos (word' n) ∷ pos (word' (2 ^ 24 - 1 - n)) ∷ []) (sym (pairs_same word word' n (omega (arith, few)) (λ u wu hu. agree u (λ e. omega (arith, e, is, hu, few)))))
          ∙ (ap (λ k. pairs word n ++ pos k ∷ pos (word' (2 ^ 24 - 1 - n)) ∷ []) (sym (agree n (λ e. other (sym (e ∙ is)))))
          ∙ (ap (λ k. pairs word n ++ pos (word n) ∷ pos (word' k) ∷ []) (sym is) ∙ sym (append_assoc (pairs word n) (pos (word n) ∷ []) (pos (word' v) ∷ []))));
    }
