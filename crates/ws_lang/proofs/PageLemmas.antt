-- Values in pages, laid over a map.
use Rattle.std.proofs.Common.{◌≡◌, ◌≢◌, ◌⊎◌, inl, inr, ℕ, zero, suc, ◌+◌, ◌-◌, ◌*◌, ◌/◌, ◌%◌, ◌<◌, ◌≤◌, Bool, true, false, cond, List, [], ◌∷◌, ◌++◌, length, set, get_or, replicate, Option, None, Some, unwrap_or, ℤ, pos, negsuc, refl, sym, ap, ◌∙◌, nat_eq, nat_lt, int_cmp, arith}
use Rattle.std.specs.Prelude.{Vec}
use Rattle.std.specs.declared.alloc.Global.{Global}
use Rattle.std.specs.declared.cmp.Ordering.{Ordering}
use Rattle.std.specs.declared.cmp.Ordering.TheVariants.{Less, Equal, Greater}
use Rattle.std.specs.Ordering.{is_eq, eq_by_cmp}
use Rattle.std.specs.FinMap as map
use Rattle.std.specs.Cmp.{int_cmp_total}
use Rattle.std.proofs.lemmas.Cmp.{tied_itself}
use Rattle.std.proofs.lemmas.Bool.{cases_eq}
use Rattle.std.proofs.lemmas.List.{length-set, length-replicate, get_or-set_same, get_or-set_other}
use Rattle.mach_core.specs.Sparse.{value_at, with_value}
use Rattle.mach_core.specs.Integer.{is_zero}
use Rattle.ws_lang.specs.Step.{Heap}
use Rattle.ws_lang.specs.Pages.{index_of, address_of, page_of, value_in, laid_over, heap_of, IsPaged, IsBlank}

-- how many values the pages have
abbrev limit : ℕ
limit = 4097 * 4096

-- a value as a map keeps it
abbrev kept : ℤ → Option ℤ
kept (pos zero) = None
kept (pos (suc n)) = Some (pos (suc n))
kept (negsuc n) = Some (negsuc n)

kept_value : (z : ℤ) → unwrap_or (kept z) (pos 0) ≡ z
kept_value (pos zero) = refl
kept_value (pos (suc n)) = refl
kept_value (negsuc n) = refl

get-with_value : (m : Heap) (a z q : ℤ) → map.get (with_value is_zero m a z) q ≡ cond (eq_by_cmp int_cmp q a) (kept z) (map.get m q)
get-with_value m a (pos zero) q = map.get-remove int_cmp_total m a q
get-with_value m a (pos (suc n)) q = map.get-insert int_cmp_total m a (pos (suc n)) q
get-with_value m a (negsuc n) q = map.get-insert int_cmp_total m a (negsuc n) q

-- an address and its index
under : (n : ℕ) → nat_lt n 4096 ≡ true → n < 4096
under n e = grind arith

not_under : (n : ℕ) → nat_lt n 4096 ≡ false → 4096 ≤ n
not_under n e = grind arith

either : (b : Bool) → (b ≡ true) ⊎ (b ≡ false)
either true = inl refl
either false = inr refl

pub address-index : (a : ℤ) → index_of a < limit → address_of (index_of a) ≡ a
address-index (pos n) lt =
    let test : nat_lt (4096 + n) 4096 ≡ false = grind arith in
    let back : 4096 + n - 4096 ≡ n = omega arith in
    ap (λ b. cond b (negsuc (4095 - (4096 + n))) (pos (4096 + n - 4096))) test ∙ ap pos back
address-index (negsuc n) lt = by (either (nat_lt n 4096)) lt where
  by : (nat_lt n 4096 ≡ true) ⊎ (nat_lt n 4096 ≡ false) → index_of (negsuc n) < limit → address_of (index_of (negsuc n)) ≡ negsuc n
  by (inl e) lt =
      let low = under n e in
      let test : nat_lt (4095 - n) 4096 ≡ true = grind arith in
      let back : 4095 - (4095 - n) ≡ n = omega arith in
      ap (λ b. address_of (cond b (4095 - n) (limit + n))) e ∙ (ap (λ b. cond b (negsuc (4095 - (4095 - n))) (pos (4095 - n - 4096))) test ∙ ap negsuc back)
  by (inr e) lt =
      let there : index_of (negsuc n) ≡ limit + n = ap (λ b. cond b (4095 - n) (limit + n)) e in
      absurd (omega arith)

pub index-address : (k : ℕ) → index_of (address_of k) ≡ k
index-address k = by (either (nat_lt k 4096)) where
  by : (nat_lt k 4096 ≡ true) ⊎ (nat_lt k 4096 ≡ false) → index_of (address_of k) ≡ k
  by (inl e) =
      let low = under k e in
      let test : nat_lt (4095 - k) 4096 ≡ true = grind arith in
      let back : 4095 - (4095 - k) ≡ k = omega arith in
      ap (λ b. index_of (cond b (negsuc (4095 - k)) (pos (k - 4096)))) e ∙ (ap (λ b. cond b (4095 - (4095 - k)) (limit + (4095 - k))) test ∙ back)
  by (inr e) =
      let high = not_under k e in
      let back : 4096 + (k - 4096) ≡ k = omega arith in
      ap (λ b. index_of (cond b (negsuc (4095 - k)) (pos (k - 4096)))) e ∙ back

equal_is : (o : Ordering) → is_eq o ≡ true → o ≡ Equal
equal_is Less e = absurd cc
equal_is Equal e = refl
equal_is Greater e = absurd cc

equal_ints : (x y : ℤ) → eq_by_cmp int_cmp x y ≡ true → x ≡ y
equal_ints x y e = map.int_cmp-IsAntisymmetric x y (equal_is (int_cmp x y) e)

same_test : (x y : ℤ) → x ≡ y → eq_by_cmp int_cmp x y ≡ true
same_test x y e = ap (eq_by_cmp int_cmp x) (sym e) ∙ ap is_eq (tied_itself int_cmp_total x)

other_test : (x y : ℤ) → (x ≡ y → ⊥) → eq_by_cmp int_cmp x y ≡ false
other_test x y h = by (either (eq_by_cmp int_cmp x y)) where
  by : (eq_by_cmp int_cmp x y ≡ true) ⊎ (eq_by_cmp int_cmp x y ≡ false) → eq_by_cmp int_cmp x y ≡ false
  by (inl e) = absurd (h (equal_ints x y e))
  by (inr e) = e

-- addresses with an index are the same where their indices are
pub tied_index : (q a : ℤ) → index_of a < limit → eq_by_cmp int_cmp q a ≡ nat_eq (index_of q) (index_of a)
tied_index q a lt = by (cases_eq (index_of q) (index_of a)) where
  by : (index_of q ≡ index_of a) ⊎ (index_of q ≢ index_of a) → eq_by_cmp int_cmp q a ≡ nat_eq (index_of q) (index_of a)
  by (inl e) =
      let low : index_of q < limit = omega arith in
      let test : nat_eq (index_of q) (index_of a) ≡ true = grind arith in
      same_test q a (sym (address-index q low) ∙ (ap address_of e ∙ address-index a lt)) ∙ sym test
  by (inr ne) =
      let test : nat_eq (index_of q) (index_of a) ≡ false = grind arith in
      other_test q a (λ e. ne (ap index_of e)) ∙ sym test

order : (q n : ℕ) → (q < n) ⊎ ((q ≡ n) ⊎ (n < q))
order q n = grind arith

-- what is laid over a map has at an address
get_laid : (n : ℕ) (f : ℕ → ℤ) (far : Heap) (q : ℤ) → n ≤ limit → map.get (laid_over n f far) q ≡ cond (nat_lt (index_of q) n) (kept (f (index_of q))) (map.get far q)
unfolding laid_over
get_laid zero f far q le =
    let test : nat_lt (index_of q) 0 ≡ false = grind arith in
    sym (ap (λ b. cond b (kept (f (index_of q))) (map.get far q)) test)
get_laid (suc n) f far q le =
    let lt : n < limit = omega arith in
    let there : index_of (address_of n) < limit = omega (arith, index-address n) in
    get-with_value (laid_over n f far) (address_of n) (f n) q
    ∙ (ap (λ b. cond b (kept (f n)) (map.get (laid_over n f far) q)) (tied_index q (address_of n) there ∙ ap (nat_eq (index_of q)) (index-address n))
    ∙ (ap (λ o. cond (nat_eq (index_of q) n) (kept (f n)) o) (get_laid n f far q (omega arith)) ∙ by (index_of q) (order (index_of q) n)))
  where
    by : (k : ℕ) → (k < n) ⊎ ((k ≡ n) ⊎ (n < k)) → cond (nat_eq k n) (kept (f n)) (cond (nat_lt k n) (kept (f k)) (map.get far q)) ≡ cond (nat_lt k (suc n)) (kept (f k)) (map.get far q)
    by k (inl l) =
        let other : nat_eq k n ≡ false = grind arith in
        let low : nat_lt k n ≡ true = grind arith in
        let high : nat_lt k (suc n) ≡ true = grind arith in
        rw (other, low, high) refl
    by k (inr (inl e)) =
        let same : nat_eq k n ≡ true = grind arith in
        let high : nat_lt k (suc n) ≡ true = grind arith in
        rw (same, high, e) refl
    by k (inr (inr g)) =
        let other : nat_eq k n ≡ false = grind arith in
        let low : nat_lt k n ≡ false = grind arith in
        let high : nat_lt k (suc n) ≡ false = grind arith in
        rw (other, low, high) refl

-- at an address with an index
laid_value : (n : ℕ) (f : ℕ → ℤ) (far : Heap) (q : ℤ) → n ≤ limit → index_of q < n → value_at (pos 0) (laid_over n f far) q ≡ f (index_of q)
laid_value n f far q le lt =
    let test : nat_lt (index_of q) n ≡ true = grind arith in
    ap (λ o. unwrap_or o (pos 0)) (get_laid n f far q le ∙ ap (λ b. cond b (kept (f (index_of q))) (map.get far q)) test) ∙ kept_value (f (index_of q))

-- and at any other
laid_far : (n : ℕ) (f : ℕ → ℤ) (far : Heap) (q : ℤ) → n ≤ limit → n ≤ index_of q → value_at (pos 0) (laid_over n f far) q ≡ value_at (pos 0) far q
laid_far n f far q le past =
    let test : nat_lt (index_of q) n ≡ false = grind arith in
    ap (λ o. unwrap_or o (pos 0)) (get_laid n f far q le ∙ ap (λ b. cond b (kept (f (index_of q))) (map.get far q)) test)

below : (k n : ℕ) → nat_lt k n ≡ true → k < n
below k n e = grind arith

-- with another value at one address with an index
laid_changed : (n : ℕ) (f g : ℕ → ℤ) (far : Heap) (a w : ℤ) → n ≤ limit → index_of a < n → ((k : ℕ) → k < n → g k ≡ cond (nat_eq k (index_of a)) w (f k)) → laid_over n g far ≡ with_value is_zero (laid_over n f far) a w
laid_changed n f g far a w le lt h = map.same_map int_cmp_total map.int_cmp-IsAntisymmetric (laid_over n g far) (with_value is_zero (laid_over n f far) a w) (λ q. get_laid n g far q le ∙ (by (index_of q) (map.get far q) (order (index_of q) (index_of a)) (either (nat_lt (index_of q) n)) ∙ sym (get-with_value (laid_over n f far) a w q ∙ (ap (λ b. cond b (kept w) (map.get (laid_over n f far) q)) (tied_index q a (omega arith)) ∙ ap (λ o. cond (nat_eq (index_of q) (index_of a)) (kept w) o) (get_laid n f far q le))))) where
  by : (k : ℕ) (o : Option ℤ) → (k < index_of a) ⊎ ((k ≡ index_of a) ⊎ (index_of a < k)) → (nat_lt k n ≡ true) ⊎ (nat_lt k n ≡ false) → cond (nat_lt k n) (kept (g k)) o ≡ cond (nat_eq k (index_of a)) (kept w) (cond (nat_lt k n) (kept (f k)) o)
  by k o (inr (inl e)) low =
      let same : nat_eq k (index_of a) ≡ true = grind arith in
      let there : nat_lt k n ≡ true = grind arith in
      let l : k < n = omega arith in
      rw (there, same) (ap kept (h k l ∙ ap (λ b. cond b w (f k)) same))
  by k o (inl l) (inl e) =
      let other : nat_eq k (index_of a) ≡ false = grind arith in
      rw (e, other) (ap kept (h k (below k n e) ∙ ap (λ b. cond b w (f k)) other))
  by k o (inl l) (inr e) =
      let other : nat_eq k (index_of a) ≡ false = grind arith in
      rw (e, other) refl
  by k o (inr (inr l)) (inl e) =
      let other : nat_eq k (index_of a) ≡ false = grind arith in
      rw (e, other) (ap kept (h k (below k n e) ∙ ap (λ b. cond b w (f k)) other))
  by k o (inr (inr l)) (inr e) =
      let other : nat_eq k (index_of a) ≡ false = grind arith in
      rw (e, other) refl

-- with another value at one without
laid_far_changed : (n : ℕ) (f : ℕ → ℤ) (far : Heap) (a w : ℤ) → n ≤ limit → n ≤ index_of a → laid_over n f (with_value is_zero far a w) ≡ with_value is_zero (laid_over n f far) a w
laid_far_changed n f far a w le past = map.same_map int_cmp_total map.int_cmp-IsAntisymmetric (laid_over n f (with_value is_zero far a w)) (with_value is_zero (laid_over n f far) a w) (λ q. get_laid n f (with_value is_zero far a w) q le ∙ (ap (λ o. cond (nat_lt (index_of q) n) (kept (f (index_of q))) o) (get-with_value far a w q) ∙ (by q (either (nat_lt (index_of q) n)) ∙ sym (get-with_value (laid_over n f far) a w q ∙ ap (λ o. cond (eq_by_cmp int_cmp q a) (kept w) o) (get_laid n f far q le))))) where
  by : (q : ℤ) → (nat_lt (index_of q) n ≡ true) ⊎ (nat_lt (index_of q) n ≡ false) → cond (nat_lt (index_of q) n) (kept (f (index_of q))) (cond (eq_by_cmp int_cmp q a) (kept w) (map.get far q)) ≡ cond (eq_by_cmp int_cmp q a) (kept w) (cond (nat_lt (index_of q) n) (kept (f (index_of q))) (map.get far q))
  by q (inl e) =
      let low = below (index_of q) n e in
      let other : eq_by_cmp int_cmp q a ≡ false = other_test q a (λ s. (let same : index_of q ≡ index_of a = ap index_of s in omega arith)) in
      rw (e, other) refl
  by q (inr e) = rw e refl

-- values of 0 alone
laid_zeros : (n : ℕ) (f : ℕ → ℤ) → n ≤ limit → ((k : ℕ) → f k ≡ pos 0) → laid_over n f map.empty ≡ map.empty
laid_zeros n f le h = map.same_map int_cmp_total map.int_cmp-IsAntisymmetric (laid_over n f map.empty) map.empty (λ q. get_laid n f map.empty q le ∙ (ap (λ o. cond (nat_lt (index_of q) n) (kept (f (index_of q))) o) (map.get-empty int_cmp q) ∙ (by q (either (nat_lt (index_of q) n)) ∙ sym (map.get-empty int_cmp q)))) where
  by : (q : ℤ) → (nat_lt (index_of q) n ≡ true) ⊎ (nat_lt (index_of q) n ≡ false) → cond (nat_lt (index_of q) n) (kept (f (index_of q))) None ≡ None
  by q (inl e) = rw e (ap kept (h (index_of q)))
  by q (inr e) = rw e refl

abbrev Table : Type 0
Table = List (Vec ℤ Global)

-- values of a page
pub get_or-past : (xs : List ℤ) (k : ℕ) → length xs ≤ k → get_or xs k (pos 0) ≡ pos 0
get_or-past [] k h = refl
get_or-past (x ∷ xs) zero h = absurd (omega arith)
get_or-past (x ∷ xs) (suc k) h = get_or-past xs k (omega arith)

get_or-set : (xs : List ℤ) (k j : ℕ) (w : ℤ) → k < length xs → get_or (set xs k w) j (pos 0) ≡ cond (nat_eq j k) w (get_or xs j (pos 0))
get_or-set xs k j w h = by (cases_eq j k) where
  by : (j ≡ k) ⊎ (j ≢ k) → get_or (set xs k w) j (pos 0) ≡ cond (nat_eq j k) w (get_or xs j (pos 0))
  by (inl e) =
      let test : nat_eq j k ≡ true = grind arith in
      rw (test, e) (get_or-set_same xs k w (pos 0) h)
  by (inr ne) =
      let test : nat_eq j k ≡ false = grind arith in
      rw test (get_or-set_other xs k j w (pos 0) ne)

get_or-zeros : (n k : ℕ) → get_or (replicate n (pos 0)) k (pos 0) ≡ pos 0
get_or-zeros zero k = refl
get_or-zeros (suc n) zero = refl
get_or-zeros (suc n) (suc k) = get_or-zeros n k

-- pages of a table
pub page_of-get : (pages : Table) (k : ℕ) (d : Vec ℤ Global) → k < length pages → (get_or pages k d).items ≡ page_of pages k
page_of-get [] k d h = absurd (omega arith)
page_of-get (x ∷ pages) zero d h = refl
page_of-get (x ∷ pages) (suc k) d h = page_of-get pages k d (omega arith)

page_of-set_same : (pages : Table) (k : ℕ) (page : Vec ℤ Global) → k < length pages → page_of (set pages k page) k ≡ page.items
page_of-set_same [] k page h = absurd (omega arith)
page_of-set_same (x ∷ pages) zero page h = refl
page_of-set_same (x ∷ pages) (suc k) page h = page_of-set_same pages k page (omega arith)

page_of-set_other : (pages : Table) (k j : ℕ) (page : Vec ℤ Global) → j ≢ k → page_of (set pages k page) j ≡ page_of pages j
page_of-set_other [] k j page ne = refl
page_of-set_other (x ∷ pages) zero zero page ne = absurd (ne refl)
page_of-set_other (x ∷ pages) zero (suc j) page ne = refl
page_of-set_other (x ∷ pages) (suc k) zero page ne = refl
page_of-set_other (x ∷ pages) (suc k) (suc j) page ne = page_of-set_other pages k j page (λ e. ne (ap suc e))

-- one more empty page
pub page_of-none : (pages : Table) (page : Vec ℤ Global) → page.items ≡ [] → ((k : ℕ) → page_of pages k ≡ []) → (k : ℕ) → page_of (pages ++ page ∷ []) k ≡ []
page_of-none [] page none all zero = none
page_of-none [] page none all (suc k) = refl
page_of-none (x ∷ pages) page none all zero = all 0
page_of-none (x ∷ pages) page none all (suc k) = page_of-none pages page none (λ j. all (suc j)) k

-- another page in the place of one
pub paged_set : (pages : Table) (k : ℕ) (page : Vec ℤ Global) → IsPaged pages → k < 4097 → (length page.items ≢ 0 → length page.items ≡ 4096) → IsPaged (set pages k page)
paged_set pages k page is low whole = record {
  count = length-set pages k page ∙ is.count;
  whole = λ j. by j (cases_eq j k);
} where
  by : (j : ℕ) → (j ≡ k) ⊎ (j ≢ k) → length (page_of (set pages k page) j) ≢ 0 → length (page_of (set pages k page) j) ≡ 4096
  by j (inl e) =
      let count = is.count in
      let there : page_of (set pages k page) j ≡ page.items = ap (page_of (set pages k page)) e ∙ page_of-set_same pages k page (omega arith) in
      rw there whole
  by j (inr ne) = rw (page_of-set_other pages k j page ne) (is.whole j)

pub paged_none : (pages : Table) → length pages ≡ 4097 → ((k : ℕ) → page_of pages k ≡ []) → IsPaged pages
paged_none pages count all = record { count = count; whole = λ k some. absurd (some (ap length (all k))) }

same_place : (q k : ℕ) → q / 4096 ≡ k / 4096 → nat_eq (q % 4096) (k % 4096) ≡ nat_eq q k
same_place q k same = by (cases_eq (q % 4096) (k % 4096)) where
  by : (q % 4096 ≡ k % 4096) ⊎ (q % 4096 ≢ k % 4096) → nat_eq (q % 4096) (k % 4096) ≡ nat_eq q k
  by (inl e) =
      let whole : q ≡ k = omega arith in
      let left : nat_eq (q % 4096) (k % 4096) ≡ true = grind arith in
      let right : nat_eq q k ≡ true = grind arith in
      left ∙ sym right
  by (inr ne) =
      let other : q ≢ k = λ e. ne (ap (λ x. x % 4096) e) in
      let left : nat_eq (q % 4096) (k % 4096) ≡ false = grind arith in
      let right : nat_eq q k ≡ false = grind arith in
      left ∙ sym right

-- the page has another value at the place of the index, and else what the page had that stood in its place
abbrev pub IsChanged : Table → Vec ℤ Global → ℕ → ℤ → Type 0
IsChanged pages page k w = (i : ℕ) → i < 4096 → get_or page.items i (pos 0) ≡ cond (nat_eq i (k % 4096)) w (get_or (page_of pages (k / 4096)) i (pos 0))

value_in-set : (pages : Table) (page : Vec ℤ Global) (k : ℕ) (w : ℤ) → k / 4096 < length pages → IsChanged pages page k w → (q : ℕ) → value_in (set pages (k / 4096) page) q ≡ cond (nat_eq q k) w (value_in pages q)
unfolding value_in
value_in-set pages page k w within changed q = by (cases_eq (q / 4096) (k / 4096)) where
  by : (q / 4096 ≡ k / 4096) ⊎ (q / 4096 ≢ k / 4096) → get_or (page_of (set pages (k / 4096) page) (q / 4096)) (q % 4096) (pos 0) ≡ cond (nat_eq q k) w (get_or (page_of pages (q / 4096)) (q % 4096) (pos 0))
  by (inl e) =
      let low : q % 4096 < 4096 = omega arith in
      ap (λ j. get_or (page_of (set pages (k / 4096) page) j) (q % 4096) (pos 0)) e
      ∙ (ap (λ ws. get_or ws (q % 4096) (pos 0)) (page_of-set_same pages (k / 4096) page within)
      ∙ (changed (q % 4096) low
      ∙ (ap (λ b. cond b w (get_or (page_of pages (k / 4096)) (q % 4096) (pos 0))) (same_place q k e)
      ∙ ap (λ j. cond (nat_eq q k) w (get_or (page_of pages j) (q % 4096) (pos 0))) (sym e))))
  by (inr ne) =
      let other : q ≢ k = λ e. ne (ap (λ x. x / 4096) e) in
      let test : nat_eq q k ≡ false = grind arith in
      ap (λ ws. get_or ws (q % 4096) (pos 0)) (page_of-set_other pages (k / 4096) (q / 4096) page ne)
      ∙ sym (ap (λ b. cond b w (get_or (page_of pages (q / 4096)) (q % 4096) (pos 0))) test)

-- what is stored at an address with an index
pub stored : (pages : Table) (far : Heap) (page : Vec ℤ Global) (a w : ℤ) (k : ℕ) → IsPaged pages → k ≡ index_of a → k < limit → IsChanged pages page k w → heap_of (set pages (k / 4096) page) far ≡ with_value is_zero (heap_of pages far) a w
unfolding heap_of
stored pages far page a w k is at within changed =
    let count = is.count in
    let there : k / 4096 < length pages = omega arith in
    let low : index_of a < limit = omega arith in
    laid_changed limit (value_in pages) (value_in (set pages (k / 4096) page)) far a w (omega arith) low (λ q l. value_in-set pages page k w there changed q ∙ ap (λ j. cond (nat_eq q j) w (value_in pages q)) at)

-- and at any other
pub stored_far : (pages : Table) (far : Heap) (a w : ℤ) → limit ≤ index_of a → heap_of pages (with_value is_zero far a w) ≡ with_value is_zero (heap_of pages far) a w
unfolding heap_of
stored_far pages far a w past = laid_far_changed limit (value_in pages) far a w (omega arith) past

-- what is found at an address with an index
pub loaded : (pages : Table) (far : Heap) (a : ℤ) (k : ℕ) → k ≡ index_of a → k < limit → value_at (pos 0) (heap_of pages far) a ≡ get_or (page_of pages (k / 4096)) (k % 4096) (pos 0)
unfolding heap_of value_in
loaded pages far a k at within =
    let low : index_of a < limit = omega arith in
    laid_value limit (value_in pages) far a (omega arith) low ∙ ap (λ j. get_or (page_of pages (j / 4096)) (j % 4096) (pos 0)) (sym at)

-- and at any other
pub loaded_far : (pages : Table) (far : Heap) (a : ℤ) → limit ≤ index_of a → value_at (pos 0) (heap_of pages far) a ≡ value_at (pos 0) far a
unfolding heap_of
loaded_far pages far a past = laid_far limit (value_in pages) far a (omega arith) past

-- pages without values
pub heap_none : (pages : Table) → ((k : ℕ) → page_of pages k ≡ []) → heap_of pages map.empty ≡ map.empty
unfolding heap_of value_in
heap_none pages all = laid_zeros limit (value_in pages) (omega arith) (λ q. ap (λ ws. get_or ws (q % 4096) (pos 0)) (all (q / 4096)))

-- a page that lacks a value has none
pub blank : (pages : Table) (far : Heap) (a : ℤ) (k : ℕ) → IsPaged pages → k ≡ index_of a → k < limit → length (page_of pages (k / 4096)) ≤ k % 4096 → IsBlank (heap_of pages far) a
blank pages far a k is at within past q same =
    let none : length (page_of pages (k / 4096)) ≡ 0 = by (cases_eq (length (page_of pages (k / 4096))) 0) in
    let low : index_of q < limit = omega arith in
    let there : index_of q / 4096 ≡ k / 4096 = same ∙ ap (λ j. j / 4096) (sym at) in
    loaded pages far q (index_of q) refl low ∙ (ap (λ j. get_or (page_of pages j) (index_of q % 4096) (pos 0)) there ∙ get_or-past (page_of pages (k / 4096)) (index_of q % 4096) (omega arith))
  where
    by : (length (page_of pages (k / 4096)) ≡ 0) ⊎ (length (page_of pages (k / 4096)) ≢ 0) → length (page_of pages (k / 4096)) ≡ 0
    by (inl e) = e
    by (inr ne) =
        let full : length (page_of pages (k / 4096)) ≡ 4096 = is.whole (k / 4096) ne in
        absurd (omega arith)

-- a page with one value stands for a blank one
pub changed_blank : (pages : Table) (far : Heap) (page : Vec ℤ Global) (a w : ℤ) (k : ℕ) → k ≡ index_of a → k < limit → IsBlank (heap_of pages far) a → page.items ≡ set (replicate 4096 (pos 0)) (k % 4096) w → IsChanged pages page k w
changed_blank pages far page a w k at within zeros is i low =
    let j : ℕ = 4096 * (k / 4096) + i in
    let q : ℤ = address_of j in
    let here : index_of q ≡ j = index-address j in
    let high : j / 4096 ≡ k / 4096 = omega arith in
    let place : j % 4096 ≡ i = omega arith in
    let under : j < limit = omega arith in
    let was : get_or (page_of pages (k / 4096)) i (pos 0) ≡ pos 0 =
    ap (λ n. get_or (page_of pages (k / 4096)) n (pos 0)) (sym place) ∙ (ap (λ n. get_or (page_of pages n) (j % 4096) (pos 0)) (sym high) ∙ (sym (loaded pages far q j (sym here) under) ∙ zeros q (ap (λ n. n / 4096) here ∙ (high ∙ ap (λ n. n / 4096) at)))) in
    let size : k % 4096 < length (replicate 4096 (pos 0)) = omega (arith, length-replicate 4096 (pos 0)) in
    ap (λ ws. get_or ws i (pos 0)) is
    ∙ (get_or-set (replicate 4096 (pos 0)) (k % 4096) i w size
    ∙ ap (cond (nat_eq i (k % 4096)) w) (get_or-zeros 4096 i ∙ sym was))

-- a page that is kept, where there is no value and 0 is stored
pub changed_not : (pages : Table) (page : Vec ℤ Global) (k : ℕ) (w : ℤ) → page.items ≡ page_of pages (k / 4096) → length page.items ≤ k % 4096 → w ≡ pos 0 → IsChanged pages page k w
changed_not pages page k w is past none i low = by (cases_eq i (k % 4096)) where
  by : (i ≡ k % 4096) ⊎ (i ≢ k % 4096) → get_or page.items i (pos 0) ≡ cond (nat_eq i (k % 4096)) w (get_or (page_of pages (k / 4096)) i (pos 0))
  by (inl e) =
      let test : nat_eq i (k % 4096) ≡ true = grind arith in
      let high : length page.items ≤ i = omega arith in
      get_or-past page.items i high ∙ (sym none ∙ sym (ap (λ b. cond b w (get_or (page_of pages (k / 4096)) i (pos 0))) test))
  by (inr ne) =
      let test : nat_eq i (k % 4096) ≡ false = grind arith in
      ap (λ ws. get_or ws i (pos 0)) is ∙ sym (ap (λ b. cond b w (get_or (page_of pages (k / 4096)) i (pos 0))) test)

-- a page with another value in the place of one of its values
pub changed_value : (pages : Table) (page page' : Vec ℤ Global) (k : ℕ) (w : ℤ) → page.items ≡ page_of pages (k / 4096) → k % 4096 < length page.items → page'.items ≡ set page.items (k % 4096) w → IsChanged pages page' k w
changed_value pages page page' k w is within new i low =
    ap (λ ws. get_or ws i (pos 0)) new ∙ (get_or-set page.items (k % 4096) i w within ∙ ap (λ ws. cond (nat_eq i (k % 4096)) w (get_or ws i (pos 0))) is)
