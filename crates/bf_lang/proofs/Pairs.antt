-- Partners, by the counts of brackets before each place.
use Rattle.std.proofs.Common.{◌≡◌, ◌≢◌, ◌⊎◌, inl, inr, ℕ, zero, suc, ◌+◌, ◌-◌, ◌<◌, ◌≤◌, Bool, List, length, refl, sym, arith, subst}
use Rattle.bf_lang.specs.Brackets.{Stands, IsCloseOf, IsOpenOf, IsPaired}
use Rattle.bf_lang.proofs.Counts.{before, At, AreApart, at, at_open, at_close, even_counts, even_from, within}
use Rattle.bf_lang.proofs.Counts.At.{Opens, Closes, Plain}

same_or_not : (a b : ℕ) → (a ≡ b) ⊎ (a ≢ b)
same_or_not a b = grind arith

before_or_next : (q p : ℕ) → q ≤ p + 1 → (q ≤ p) ⊎ (q ≡ p + 1)
before_or_next q p le = grind arith

next_or_behind : (q p : ℕ) → p ≤ q → (q ≡ p) ⊎ (p + 1 ≤ q)
next_or_behind q p le = grind arith

module _ {A : Type 0} (opens closes : A → Bool) (xs : List A) (apart : AreApart opens closes) where
  -- more open than close between two places
  abbrev pub IsAbove : ℕ → ℕ → Type 0
  IsAbove i p = before closes xs p + before opens xs i < before opens xs p + before closes xs i

  above_step : (i j k : ℕ) → IsCloseOf opens closes xs i j → i < k → k < j → IsAbove i k → At opens closes xs k → IsAbove i (k + 1)
  above_step i j k c later low high (Opens s o d) = omega arith
  above_step i j k c later low high (Plain s t o d) = omega arith
  above_step i j k c later low high (Closes s o d) = by (same_or_not (before closes xs (k + 1) + before opens xs i) (before opens xs (k + 1) + before closes xs i)) where
    le : i ≤ k
    le = omega arith

    by : ((before closes xs (k + 1) + before opens xs i) ≡ (before opens xs (k + 1) + before closes xs i)) ⊎ ((before closes xs (k + 1) + before opens xs i) ≢ (before opens xs (k + 1) + before closes xs i)) → IsAbove i (k + 1)
    by (inl e) = absurd (c.nearest k later low s (even_from opens closes xs i k le e))
    by (inr ne) = omega arith

  -- up to its partner a bracket is open
  above_close : (i j : ℕ) → IsCloseOf opens closes xs i j → (n p : ℕ) → p ≡ i + 1 + n → p ≤ j → IsAbove i p
  above_close i j c zero p e le =
      let counts = at_open opens closes xs apart i c.opening in
      let first : IsAbove i (i + 1) = omega (arith, counts.0, counts.1) in
      let is : i + 1 ≡ p = omega arith in
      subst (λ q. IsAbove i q) is first
  above_close i j c (suc n) p e le =
      let k = i + 1 + n in
      let is : k + 1 ≡ p = omega arith in
      let low : k < j = omega arith in
      let later : i < k = omega arith in
      let end = within closes xs j c.closing in
      let there : k < length xs = omega arith in
      let upto : k ≤ j = omega arith in
      subst (λ q. IsAbove i q) is (above_step i j k c later low (above_close i j c n k refl upto) (at opens closes xs apart k there))

  pub above_before : (i j : ℕ) → IsCloseOf opens closes xs i j → (p : ℕ) → i < p → p ≤ j → IsAbove i p
  above_before i j c p later le = let e : p ≡ i + 1 + (p - (i + 1)) = omega arith in above_close i j c (p - (i + 1)) p e le

  pub mutual_close : (i j : ℕ) → IsCloseOf opens closes xs i j → IsOpenOf opens closes xs j i
  mutual_close i j c = record {
    opening = c.opening;
    closing = c.closing;
    earlier = c.later;
    even = c.even;
    nearest = λ k later low s e.
        let here : i ≤ j = omega (arith, c.later) in
        let there : k ≤ j = omega arith in
        let whole = even_counts opens closes xs i j here c.even in
        let part = even_counts opens closes xs k j there e in
        let high : IsAbove i k = above_before i j c k later there in
        omega (arith, whole, part, high);
  }

  below_step : (i j k : ℕ) → IsOpenOf opens closes xs j i → i < k → k < j → IsAbove i (k + 1) → At opens closes xs k → IsAbove i k
  below_step i j k c later low high (Plain s t o d) = omega arith
  below_step i j k c later low high (Closes s o d) = omega arith
  below_step i j k c later low high (Opens s o d) = by (same_or_not (before closes xs k + before opens xs i) (before opens xs k + before closes xs i)) where
    here : i ≤ j
    here = omega arith

    there : k ≤ j
    there = omega arith

    by : ((before closes xs k + before opens xs i) ≡ (before opens xs k + before closes xs i)) ⊎ ((before closes xs k + before opens xs i) ≢ (before opens xs k + before closes xs i)) → IsAbove i k
    by (inl e) =
        let whole = even_counts opens closes xs i j here c.even in
        let level : before closes xs (j + 1) + before opens xs k ≡ before opens xs (j + 1) + before closes xs k = omega (arith, whole, e) in
        absurd (c.nearest k later low s (even_from opens closes xs k j there level))
    by (inr ne) = omega arith

  below_open : (i j : ℕ) → IsOpenOf opens closes xs j i → (n p : ℕ) → p + n ≡ j → i < p → IsAbove i p
  below_open i j c zero p e later =
      let here : i ≤ j = omega (arith, c.earlier) in
      let counts = at_close opens closes xs apart j c.closing in
      let whole = even_counts opens closes xs i j here c.even in
      let last : IsAbove i j = omega (arith, counts.0, counts.1, whole) in
      let is : j ≡ p = omega arith in
      subst (λ q. IsAbove i q) is last
  below_open i j c (suc n) p e later =
      let low : p < j = omega arith in
      let end = within closes xs j c.closing in
      let there : p < length xs = omega arith in
      let on : p + 1 + n ≡ j = omega arith in
      let after : i < p + 1 = omega arith in
      below_step i j p c later low (below_open i j c n (p + 1) on after) (at opens closes xs apart p there)

  pub mutual_open : (i j : ℕ) → IsOpenOf opens closes xs j i → IsCloseOf opens closes xs i j
  mutual_open i j c = record {
    opening = c.opening;
    closing = c.closing;
    later = c.earlier;
    even = c.even;
    nearest = λ k later low s e.
        let here : i ≤ k = omega arith in
        let part = even_counts opens closes xs i k here e in
        let after : i < k + 1 = omega arith in
        let left : k + 1 + (j - (k + 1)) ≡ j = omega arith in
        let high : IsAbove i (k + 1) = below_open i j c (j - (k + 1)) (k + 1) left after in
        omega (arith, part, high);
  }

  extended : (i p : ℕ) → ((q : ℕ) → i < q → q ≤ p → IsAbove i q) → IsAbove i (p + 1) → (q : ℕ) → i < q → q ≤ p + 1 → IsAbove i q
  extended i p all next q later le = by (before_or_next q p le) where
    by : (q ≤ p) ⊎ (q ≡ p + 1) → IsAbove i q
    by (inl l) = all q later l
    by (inr e) = subst (λ r. IsAbove i r) (sym e) next

  close_step : (i p : ℕ) → Stands opens xs i → i < p → ((q : ℕ) → i < q → q ≤ p → IsAbove i q) → (IsAbove i (p + 1) → (j : ℕ) × IsCloseOf opens closes xs i j) → At opens closes xs p → (j : ℕ) × IsCloseOf opens closes xs i j
  close_step i p opener later all go (Opens s o d) = let self : p ≤ p = omega arith in let high = all p later self in go (omega (arith, high, o, d))
  close_step i p opener later all go (Plain s t o d) = let self : p ≤ p = omega arith in let high = all p later self in go (omega (arith, high, o, d))
  close_step i p opener later all go (Closes s o d) = by_level (same_or_not (before closes xs (p + 1) + before opens xs i) (before opens xs (p + 1) + before closes xs i)) where
    self : p ≤ p
    self = omega arith

    le : i ≤ p
    le = omega arith

    by_level : ((before closes xs (p + 1) + before opens xs i) ≡ (before opens xs (p + 1) + before closes xs i)) ⊎ ((before closes xs (p + 1) + before opens xs i) ≢ (before opens xs (p + 1) + before closes xs i)) → (j : ℕ) × IsCloseOf opens closes xs i j
    by_level (inr ne) = go (omega (arith, all p later self, o, d, ne))
    by_level (inl level) = (
      p,
      record {
        opening = opener;
        closing = s;
        later = later;
        even = even_from opens closes xs i p le level;
        nearest = λ k beyond low t even.
            let here : i ≤ k = omega arith in
            let part = even_counts opens closes xs i k here even in
            let behind : i < k + 1 = omega arith in
            let upto : k + 1 ≤ p = omega arith in
            omega (arith, part, all (k + 1) behind upto);
      },
    )

  -- where a bracket is no longer open somewhere, it has a partner before
  seek_close : (i m : ℕ) → Stands opens xs i → m ≤ length xs → ¬ (IsAbove i m) → (n p : ℕ) → p + n ≡ m → i < p → ((q : ℕ) → i < q → q ≤ p → IsAbove i q) → (j : ℕ) × IsCloseOf opens closes xs i j
  seek_close i m opener few over zero p e later all = let is : p ≡ m = omega arith in let le : p ≤ p = omega arith in absurd (over (subst (λ r. IsAbove i r) is (all p later le)))
  seek_close i m opener few over (suc n) p e later all =
      let there : p < length xs = omega arith in
      let on : p + 1 + n ≡ m = omega arith in
      let after : i < p + 1 = omega arith in
      close_step i p opener later all (λ next. seek_close i m opener few over n (p + 1) on after (extended i p all next)) (at opens closes xs apart p there)

  pub find_close : (i m : ℕ) → Stands opens xs i → i < m → m ≤ length xs → ¬ (IsAbove i m) → (j : ℕ) × IsCloseOf opens closes xs i j
  find_close i m opener later few over =
      let counts = at_open opens closes xs apart i opener in
      let first : IsAbove i (i + 1) = omega (arith, counts.0, counts.1) in
      let on : i + 1 + (m - (i + 1)) ≡ m = omega arith in
      let next : i < i + 1 = omega arith in
      seek_close i m opener few over (m - (i + 1)) (i + 1) on next (λ q beyond le. let is : i + 1 ≡ q = omega arith in subst (λ r. IsAbove i r) is first)

  -- more were open at a place than behind another
  abbrev IsOver : ℕ → ℕ → Type 0
  IsOver j p = before closes xs p + before opens xs (j + 1) < before opens xs p + before closes xs (j + 1)

  lengthened : (j p : ℕ) → ((q : ℕ) → p + 1 ≤ q → q ≤ j → IsOver j q) → IsOver j p → (q : ℕ) → p ≤ q → q ≤ j → IsOver j q
  lengthened j p all next q later le = by (next_or_behind q p later) where
    by : (q ≡ p) ⊎ (p + 1 ≤ q) → IsOver j q
    by (inl e) = subst (λ r. IsOver j r) (sym e) next
    by (inr l) = all q l le

  open_step : (j n : ℕ) → Stands closes xs j → n < j → ((q : ℕ) → n + 1 ≤ q → q ≤ j → IsOver j q) → (IsOver j n → (i : ℕ) × IsOpenOf opens closes xs j i) → At opens closes xs n → (i : ℕ) × IsOpenOf opens closes xs j i
  open_step j n close later all go (Closes s o d) = let here : n + 1 ≤ j = omega arith in let self : n + 1 ≤ n + 1 = omega arith in let high = all (n + 1) self here in go (omega (arith, high, o, d))
  open_step j n close later all go (Plain s t o d) = let here : n + 1 ≤ j = omega arith in let self : n + 1 ≤ n + 1 = omega arith in let high = all (n + 1) self here in go (omega (arith, high, o, d))
  open_step j n close later all go (Opens s o d) = by_level (same_or_not (before closes xs n + before opens xs (j + 1)) (before opens xs n + before closes xs (j + 1))) where
    here : n + 1 ≤ j
    here = omega arith

    self : n + 1 ≤ n + 1
    self = omega arith

    upto : n ≤ j
    upto = omega arith

    by_level : ((before closes xs n + before opens xs (j + 1)) ≡ (before opens xs n + before closes xs (j + 1))) ⊎ ((before closes xs n + before opens xs (j + 1)) ≢ (before opens xs n + before closes xs (j + 1))) → (i : ℕ) × IsOpenOf opens closes xs j i
    by_level (inr ne) = go (omega (arith, all (n + 1) self here, o, d, ne))
    by_level (inl level) = (
      n,
      record {
        opening = s;
        closing = close;
        earlier = later;
        even = even_from opens closes xs n j upto (omega (arith, level));
        nearest = λ k beyond low t even.
            let from : n + 1 ≤ k = omega arith in
            let end : k ≤ j = omega arith in
            let part = even_counts opens closes xs k j end even in
            omega (arith, part, all k from end);
      },
    )

  -- where nothing closes without its partner, a bracket that closes has one
  seek_open : (j : ℕ) → Stands closes xs j → before closes xs (j + 1) ≤ before opens xs (j + 1) → (n p : ℕ) → p ≡ n → p ≤ j → ((q : ℕ) → p ≤ q → q ≤ j → IsOver j q) → (i : ℕ) × IsOpenOf opens closes xs j i
  seek_open j close whole zero p e le all =
      let low : 0 ≤ j = omega arith in
      let start : p ≤ 0 = omega arith in
      let high : IsOver j 0 = all 0 start low in
      absurd (omega (arith, high, whole))
  seek_open j close whole (suc n) p e le all =
      let end = within closes xs j close in
      let there : n < length xs = omega arith in
      let upto : n ≤ j = omega arith in
      let later : n < j = omega arith in
      let rest : (q : ℕ) → n + 1 ≤ q → q ≤ j → IsOver j q = λ q l m. let from : p ≤ q = omega arith in all q from m in
      open_step j n close later rest (λ low. seek_open j close whole n n refl upto (lengthened j n rest low)) (at opens closes xs apart n there)

  pub find_open : (j : ℕ) → Stands closes xs j → before closes xs (j + 1) ≤ before opens xs (j + 1) → (i : ℕ) × IsOpenOf opens closes xs j i
  find_open j close whole =
      let counts = at_close opens closes xs apart j close in
      let last : IsOver j j = omega (arith, counts.0, counts.1) in
      let self : j ≤ j = omega arith in
      seek_open j close whole j j refl self (λ q from le. let is : j ≡ q = omega arith in subst (λ r. IsOver j r) is last)

  -- where nothing closes without its partner, and nothing is open at the end, each bracket has its partner
  pub paired_from : ((p : ℕ) → p ≤ length xs → before closes xs p ≤ before opens xs p) → before opens xs (length xs) ≡ before closes xs (length xs) → IsPaired opens closes xs
  paired_from whole level = record {
    opened = λ j close. let le : j + 1 ≤ length xs = omega (arith, within closes xs j close) in find_open j close (whole (j + 1) le);
    closed = λ i opener.
        let there = within opens xs i opener in
        let le : i ≤ length xs = omega (arith, there) in
        let self : length xs ≤ length xs = omega arith in
        find_close i (length xs) opener there self (λ high. omega (arith, high, level, whole i le));
  }

  module _ (paired : IsPaired opens closes xs) where
    fewer_step : (n : ℕ) → n < length xs → ((p : ℕ) → p ≤ n → p ≤ length xs → before closes xs p ≤ before opens xs p) → At opens closes xs n → before closes xs (n + 1) ≤ before opens xs (n + 1)
    fewer_step n there all (Opens s o d) = let self : n ≤ n = omega arith in let few : n ≤ length xs = omega arith in omega (arith, all n self few, o, d)
    fewer_step n there all (Plain s t o d) = let self : n ≤ n = omega arith in let few : n ≤ length xs = omega arith in omega (arith, all n self few, o, d)
    fewer_step n there all (Closes s o d) =
        let opener = paired.opened n s in
        let i = opener.0 in
        let close = mutual_open i n opener.1 in
        let self : n ≤ n = omega arith in
        let low : i ≤ n = omega (arith, close.later) in
        let few : i ≤ length xs = omega arith in
        let high : IsAbove i n = above_before i n close n close.later self in
        omega (arith, high, all i low few, o, d)

    no_fewer : (n p : ℕ) → p ≤ n → p ≤ length xs → before closes xs p ≤ before opens xs p
    no_fewer zero p le few = let is : 0 ≡ p = omega arith in subst (λ q. before closes xs q ≤ before opens xs q) is (omega arith)
    no_fewer (suc n) p le few = let upto : p ≤ n + 1 = omega arith in by p few (λ q l m. no_fewer n q l m) (before_or_next p n upto) where
      by : (p : ℕ) → p ≤ length xs → ((p : ℕ) → p ≤ n → p ≤ length xs → before closes xs p ≤ before opens xs p) → (p ≤ n) ⊎ (p ≡ n + 1) → before closes xs p ≤ before opens xs p
      by p few all (inl l) = all p l few
      by p few all (inr e) = let there : n < length xs = omega arith in subst (λ q. before closes xs q ≤ before opens xs q) (sym e) (fewer_step n there all (at opens closes xs apart n there))

    pub whole_of : (p : ℕ) → p ≤ length xs → before closes xs p ≤ before opens xs p
    whole_of p le = let self : p ≤ p = omega arith in no_fewer p p self le

    -- at the end no more is open than at any place before
    abbrev IsLower : ℕ → Type 0
    IsLower p = before opens xs (length xs) + before closes xs p ≤ before closes xs (length xs) + before opens xs p

    more_step : (n p : ℕ) → p < length xs → length xs ≤ p + suc n → ((q : ℕ) → length xs ≤ q + n → q ≤ length xs → IsLower q) → At opens closes xs p → IsLower p
    more_step n p there le all (Closes s o d) = let on : length xs ≤ p + 1 + n = omega arith in let few : p + 1 ≤ length xs = omega arith in omega (arith, all (p + 1) on few, o, d)
    more_step n p there le all (Plain s t o d) = let on : length xs ≤ p + 1 + n = omega arith in let few : p + 1 ≤ length xs = omega arith in omega (arith, all (p + 1) on few, o, d)
    more_step n p there le all (Opens s o d) =
        let close = paired.closed p s in
        let j = close.0 in
        let later : p ≤ j = omega (arith, close.1.later) in
        let end : j + 1 ≤ length xs = omega (arith, within closes xs j close.1.closing) in
        let far : length xs ≤ j + 1 + n = omega (arith, close.1.later) in
        omega (arith, even_counts opens closes xs p j later close.1.even, all (j + 1) far end)

    no_more : (n p : ℕ) → length xs ≤ p + n → p ≤ length xs → IsLower p
    no_more zero p le few = let is : length xs ≡ p = omega arith in subst (λ q. IsLower q) is (omega arith)
    no_more (suc n) p le few = by p le (λ q l m. no_more n q l m) (next_or_behind (length xs) p few) where
      by : (p : ℕ) → length xs ≤ p + suc n → ((q : ℕ) → length xs ≤ q + n → q ≤ length xs → IsLower q) → (length xs ≡ p) ⊎ (p + 1 ≤ length xs) → IsLower p
      by p le all (inl e) = subst (λ q. IsLower q) e (omega arith)
      by p le all (inr l) = let there : p < length xs = omega arith in more_step n p there le all (at opens closes xs apart p there)

    pub level_of : before opens xs (length xs) ≡ before closes xs (length xs)
    level_of =
        let self : length xs ≤ length xs = omega arith in
        let low : 0 ≤ length xs = omega arith in
        let all : length xs ≤ 0 + length xs = omega arith in
        omega (arith, whole_of (length xs) self, no_more (length xs) 0 all low)
