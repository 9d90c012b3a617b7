-- What pages have at an address, before and after a cell of one of them is put.
use Rattle.std.proofs.Common.{◌≡◌, ◌≢◌, ◌⊎◌, inl, inr, ℕ, zero, suc, ◌+◌, ◌*◌, ◌/◌, ◌%◌, ◌^◌, ◌<◌, ◌≤◌, Bool, true, false, cond, List, [], ◌∷◌, ◌++◌, length, set, get_or, replicate, None, Some, slice_get, ℤ, pos, refl, sym, ap, ◌∙◌, nat_eq, nat_lt, nat_cmp, arith}
use Rattle.std.specs.Prelude.{Vec}
use Rattle.std.specs.declared.alloc.Global.{Global}
use Rattle.std.specs.BTreeMap.{is_at}
use Rattle.std.specs.Cmp.{unsigned_tied}
use Rattle.std.specs.FinMap as map
use Rattle.std.specs.Map.{lookup}
use Rattle.std.proofs.lemmas.Bool.{cases_eq}
use Rattle.std.proofs.lemmas.List.{length-set, length-replicate, get_or-set_same, get_or-set_other}
use Rattle.sq_lang.specs.Step.{CellMap, cell_at, with_cell}
use Rattle.sq_lang.specs.Want.{IsBlank}
use Rattle.sq_lang.specs.Pages.{Front, Behind, cells_in, page_at, paged, cells_of, IsPaged, IsPageSet}
use Rattle.sq_lang.proofs.Below.{cell_below, below_alike, below_empty, below_changed}

-- what is read
pub read : (page : ℕ → List ℤ) (a : ℕ) → a < 2 ^ 64 → cell_at (cells_of page) a ≡ paged page a
unfolding cells_of
read page a within = cell_below (2 ^ 64) (paged page) a within

-- the same pages have the same cells
pub cells_alike : (page page' : ℕ → List ℤ) → ((k : ℕ) → page' k ≡ page k) → cells_of page' ≡ cells_of page
unfolding cells_of
cells_alike page page' same = below_alike (2 ^ 64) (paged page) (paged page') (λ q l. ap (λ xs. get_or xs (q % 4096) (pos 0)) (same (q / 4096)))

-- pages without cells are all 0
pub cells_none : (page : ℕ → List ℤ) → ((k : ℕ) → page k ≡ []) → cells_of page ≡ map.empty
unfolding cells_of
cells_none page none = below_empty (2 ^ 64) (paged page) (λ q l. ap (λ xs. get_or xs (q % 4096) (pos 0)) (none (q / 4096)))

same_test : (q a : ℕ) → q / 4096 ≡ a / 4096 → nat_eq (q % 4096) (a % 4096) ≡ nat_eq q a
same_test q a same = by (cases_eq (q % 4096) (a % 4096)) where
  by : (q % 4096 ≡ a % 4096) ⊎ (q % 4096 ≢ a % 4096) → nat_eq (q % 4096) (a % 4096) ≡ nat_eq q a
  by (inl e) =
      let whole : q ≡ a = omega arith in
      let left : nat_eq (q % 4096) (a % 4096) ≡ true = grind arith in
      let right : nat_eq q a ≡ true = grind arith in
      left ∙ sym right
  by (inr ne) =
      let other : q ≢ a = λ e. ne (ap (λ x. x % 4096) e) in
      let left : nat_eq (q % 4096) (a % 4096) ≡ false = grind arith in
      let right : nat_eq q a ≡ false = grind arith in
      left ∙ sym right

-- the page of an address has another cell there, and all else is as it was
pub record IsPut (page page' : ℕ → List ℤ) (a : ℕ) (z : ℤ) : Type 0 where
  pub here : (i : ℕ) → i < 4096 → get_or (page' (a / 4096)) i (pos 0) ≡ cond (nat_eq i (a % 4096)) z (get_or (page (a / 4096)) i (pos 0))
  pub others : (k : ℕ) → k ≢ a / 4096 → page' k ≡ page k

put_at : (page page' : ℕ → List ℤ) (a : ℕ) (z : ℤ) → IsPut page page' a z → (q : ℕ) → paged page' q ≡ cond (nat_eq q a) z (paged page q)
put_at page page' a z is q = by (cases_eq (q / 4096) (a / 4096)) where
  by : (q / 4096 ≡ a / 4096) ⊎ (q / 4096 ≢ a / 4096) → paged page' q ≡ cond (nat_eq q a) z (paged page q)
  by (inl e) =
      let low : q % 4096 < 4096 = omega arith in
      ap (λ j. get_or (page' j) (q % 4096) (pos 0)) e
      ∙ (is.here (q % 4096) low
      ∙ (ap (λ b. cond b z (get_or (page (a / 4096)) (q % 4096) (pos 0))) (same_test q a e)
      ∙ ap (λ j. cond (nat_eq q a) z (get_or (page j) (q % 4096) (pos 0))) (sym e)))
  by (inr ne) =
      let other : q ≢ a = λ e. ne (ap (λ x. x / 4096) e) in
      let test : nat_eq q a ≡ false = grind arith in
      ap (λ xs. get_or xs (q % 4096) (pos 0)) (is.others (q / 4096) ne) ∙ sym (ap (λ b. cond b z (paged page q)) test)

-- what is put
pub stored : (page page' : ℕ → List ℤ) (a : ℕ) (z : ℤ) → a < 2 ^ 64 → IsPut page page' a z → cells_of page' ≡ with_cell (cells_of page) a z
unfolding cells_of
stored page page' a z within is = below_changed (2 ^ 64) (paged page) (paged page') a z within (λ q l. put_at page page' a z is q)

-- a cell of a list
past : (xs : List ℤ) (i : ℕ) → length xs ≤ i → get_or xs i (pos 0) ≡ pos 0
past [] i h = refl
past (x ∷ xs) zero h = absurd (omega arith)
past (x ∷ xs) (suc i) h = past xs i (omega arith)

set_past : (xs : List ℤ) (i : ℕ) (z : ℤ) → length xs ≤ i → set xs i z ≡ xs
set_past [] i z h = refl
set_past (x ∷ xs) zero z h = absurd (omega arith)
set_past (x ∷ xs) (suc i) z h = ap (λ (ys : List ℤ). x ∷ ys) (set_past xs i z (omega arith))

pub zeros : (n i : ℕ) → get_or (replicate n (pos 0)) i (pos 0) ≡ pos 0
zeros zero i = refl
zeros (suc n) zero = refl
zeros (suc n) (suc i) = zeros n i

-- where there is room for it, or it is 0
pub put_in : (xs : List ℤ) (i j : ℕ) (z : ℤ) → (i < length xs) ⊎ (z ≡ pos 0) → get_or (set xs i z) j (pos 0) ≡ cond (nat_eq j i) z (get_or xs j (pos 0))
put_in xs i j z can = by (cases_eq j i) can (room xs i) where
  room : (xs : List ℤ) (i : ℕ) → (i < length xs) ⊎ (length xs ≤ i)
  room xs i = grind arith

  by : (j ≡ i) ⊎ (j ≢ i) → (i < length xs) ⊎ (z ≡ pos 0) → (i < length xs) ⊎ (length xs ≤ i) → get_or (set xs i z) j (pos 0) ≡ cond (nat_eq j i) z (get_or xs j (pos 0))
  by (inl e) may (inl l) =
      let test : nat_eq j i ≡ true = grind arith in
      rw (test, e) (get_or-set_same xs i z (pos 0) l)
  by (inl e) (inl l) (inr p) = absurd (omega arith)
  by (inl e) (inr none) (inr p) =
      let test : nat_eq j i ≡ true = grind arith in
      rw (test, e, set_past xs i z p, none) (past xs i p)
  by (inr ne) may r =
      let test : nat_eq j i ≡ false = grind arith in
      rw test (get_or-set_other xs i j z (pos 0) ne)

-- the first pages, and those behind them
pub front_page : (front : Front) (behind : Behind) (k : ℕ) → k < 4096 → page_at front behind k ≡ cells_in (slice_get front k)
unfolding page_at
front_page front behind k l =
    let low : nat_lt k 4096 ≡ true = grind arith in
    ap (λ b. cond b (cells_in (slice_get front k)) (cells_in (lookup (is_at (nat_cmp k)) behind))) low

pub behind_page : (front : Front) (behind : Behind) (k : ℕ) → 4096 ≤ k → page_at front behind k ≡ cells_in (lookup (is_at (nat_cmp k)) behind)
unfolding page_at
behind_page front behind k g =
    let high : nat_lt k 4096 ≡ false = grind arith in
    ap (λ b. cond b (cells_in (slice_get front k)) (cells_in (lookup (is_at (nat_cmp k)) behind))) high

pub cells_in-get : (front : Front) (k : ℕ) (d : Vec ℤ Global) → k < length front → cells_in (slice_get front k) ≡ (get_or front k d).items
cells_in-get [] k d h = absurd (omega arith)
cells_in-get (x ∷ front) zero d h = refl
cells_in-get (x ∷ front) (suc k) d h = cells_in-get front k d (omega arith)

-- the cells of a first page
pub front_cells : (front : Front) (behind : Behind) (k : ℕ) (page : Vec ℤ Global) → length front ≡ 4096 → k < 4096 → page ≡ get_or front k page → page.items ≡ page_at front behind k
front_cells front behind k page count l was = ap (λ v. v.items) was ∙ sym (front_page front behind k l ∙ cells_in-get front k page (omega arith))

get-set_same : (front : Front) (k : ℕ) (page : Vec ℤ Global) → k < length front → slice_get (set front k page) k ≡ Some page
get-set_same [] k page h = absurd (omega arith)
get-set_same (x ∷ front) zero page h = refl
get-set_same (x ∷ front) (suc k) page h = get-set_same front k page (omega arith)

get-set_other : (front : Front) (k j : ℕ) (page : Vec ℤ Global) → j ≢ k → slice_get (set front k page) j ≡ slice_get front j
get-set_other [] k j page ne = refl
get-set_other (x ∷ front) zero zero page ne = absurd (ne refl)
get-set_other (x ∷ front) zero (suc j) page ne = refl
get-set_other (x ∷ front) (suc k) zero page ne = refl
get-set_other (x ∷ front) (suc k) (suc j) page ne = get-set_other front k j page (λ e. ne (ap suc e))

front_other : (front : Front) (behind : Behind) (k j : ℕ) (page : Vec ℤ Global) → j ≢ k → page_at (set front k page) behind j ≡ page_at front behind j
unfolding page_at
front_other front behind k j page ne = ap (λ o. cond (nat_lt j 4096) (cells_in o) (cells_in (lookup (is_at (nat_cmp j)) behind))) (get-set_other front k j page ne)

pub front_set : (front : Front) (behind : Behind) (k : ℕ) (page : Vec ℤ Global) → length front ≡ 4096 → k < 4096 → IsPageSet (page_at front behind) (page_at (set front k page) behind) k page.items
front_set front behind k page count l = record {
  here = front_page (set front k page) behind k l ∙ ap cells_in (get-set_same front k page (omega arith));
  others = λ j ne. front_other front behind k j page ne;
}

-- a cell of one of the first pages
pub front_put : (front : Front) (behind : Behind) (k i : ℕ) (z : ℤ) (page page' : Vec ℤ Global) → length front ≡ 4096 → k < 4096 → page ≡ get_or front k page → page'.items ≡ set page.items i z
    → IsPageSet (page_at front behind) (page_at (set front k page') behind) k (set (page_at front behind k) i z)
front_put front behind k i z page page' count l was is =
    let r = front_set front behind k page' count l in
    record { here = r.here ∙ (is ∙ ap (λ xs. set xs i z) (front_cells front behind k page count l was)); others = r.others }

tied_same : (k : ℕ) → is_at (nat_cmp k) k ≡ true
tied_same k =
    let test : nat_eq k k ≡ true = grind arith in
    unsigned_tied k k ∙ test

tied_other : (k j : ℕ) → j ≢ k → is_at (nat_cmp k) j ≡ false
tied_other k j ne =
    let test : nat_eq k j ≡ false = grind arith in
    unsigned_tied k j ∙ test

behind_other : (front : Front) (behind behind' : Behind) (j : ℕ) → lookup (is_at (nat_cmp j)) behind' ≡ lookup (is_at (nat_cmp j)) behind → page_at front behind' j ≡ page_at front behind j
unfolding page_at
behind_other front behind behind' j same = ap (λ o. cond (nat_lt j 4096) (cells_in (slice_get front j)) (cells_in o)) same

-- another page in the place of one behind the first
pub behind_set : (front : Front) (behind behind' : Behind) (k : ℕ) (page : Vec ℤ Global) → 4096 ≤ k → ((q : ℕ) → lookup (is_at (nat_cmp q)) behind' ≡ cond (is_at (nat_cmp k) q) (Some page) (lookup (is_at (nat_cmp q)) behind))
    → IsPageSet (page_at front behind) (page_at front behind') k page.items
behind_set front behind behind' k page g gives = record {
  here = behind_page front behind' k g ∙ ap cells_in (gives k ∙ ap (λ b. cond b (Some page) (lookup (is_at (nat_cmp k)) behind)) (tied_same k));
  others = λ j ne. behind_other front behind behind' j (gives j ∙ ap (λ b. cond b (Some page) (lookup (is_at (nat_cmp j)) behind)) (tied_other k j ne));
}

-- the cells of a page behind the first
pub behind_cells : (front : Front) (behind : Behind) (k : ℕ) (page : Vec ℤ Global) → 4096 ≤ k → Some page ≡ lookup (is_at (nat_cmp k)) behind → page.items ≡ page_at front behind k
behind_cells front behind k page g was = ap cells_in was ∙ sym (behind_page front behind k g)

-- a cell of one of them
pub behind_put : (front : Front) (behind behind' : Behind) (k i : ℕ) (z : ℤ) (page page' : Vec ℤ Global) → 4096 ≤ k → Some page ≡ lookup (is_at (nat_cmp k)) behind → page'.items ≡ set page.items i z
    → ((q : ℕ) → lookup (is_at (nat_cmp q)) behind' ≡ cond (is_at (nat_cmp k) q) (Some page') (lookup (is_at (nat_cmp q)) behind))
    → IsPageSet (page_at front behind) (page_at front behind') k (set (page_at front behind k) i z)
behind_put front behind behind' k i z page page' g was is gives =
    let r = behind_set front behind behind' k page' g gives in
    record { here = r.here ∙ (is ∙ ap (λ xs. set xs i z) (behind_cells front behind k page g was)); others = r.others }

-- a page that isn't there has no cells, and none is changed
pub behind_none : (front : Front) (behind : Behind) (k : ℕ) → 4096 ≤ k → None ≡ lookup (is_at (nat_cmp k)) behind → page_at front behind k ≡ []
behind_none front behind k g was = behind_page front behind k g ∙ ap cells_in (sym was)

pub none_put : (page : ℕ → List ℤ) (k i : ℕ) (z : ℤ) → page k ≡ [] → IsPageSet page page k (set (page k) i z)
none_put page k i z none = record { here = none ∙ sym (ap (λ xs. set xs i z) none ∙ set_past [] i z (omega arith)); others = λ j ne. refl }

-- all pages are whole or have no cells
abbrev pub AreWhole : (ℕ → List ℤ) → Type 0
AreWhole page = (k : ℕ) → length (page k) ≢ 0 → length (page k) ≡ 4096

pub whole_set : (page page' : ℕ → List ℤ) (k : ℕ) (cells : List ℤ) → AreWhole page → IsPageSet page page' k cells → (length cells ≢ 0 → length cells ≡ 4096) → AreWhole page'
whole_set page page' k cells all is whole j = by (cases_eq j k) where
  by : (j ≡ k) ⊎ (j ≢ k) → length (page' j) ≢ 0 → length (page' j) ≡ 4096
  by (inl e) = rw (ap page' e ∙ is.here) whole
  by (inr ne) = rw (is.others j ne) (all j)

-- a cell of a page is put where there is room for it or it is 0
pub is_put : (page page' : ℕ → List ℤ) (a : ℕ) (z : ℤ) → IsPageSet page page' (a / 4096) (set (page (a / 4096)) (a % 4096) z) → (a % 4096 < length (page (a / 4096))) ⊎ (z ≡ pos 0) → IsPut page page' a z
is_put page page' a z is can = record {
  here = λ i l. ap (λ ys. get_or ys i (pos 0)) is.here ∙ put_in (page (a / 4096)) (a % 4096) i z can;
  others = is.others;
}

-- and else nothing is
pub not_put : (page page' : ℕ → List ℤ) (k i : ℕ) (z : ℤ) → IsPageSet page page' k (set (page k) i z) → length (page k) ≤ i → cells_of page' ≡ cells_of page
not_put page page' k i z is past_all = cells_alike page page' (λ j. by j (cases_eq j k)) where
  by : (j : ℕ) → (j ≡ k) ⊎ (j ≢ k) → page' j ≡ page j
  by j (inl e) = ap page' e ∙ (is.here ∙ (set_past (page k) i z past_all ∙ ap page (sym e)))
  by j (inr ne) = is.others j ne

-- a page without cells is blank
pub blank : (page : ℕ → List ℤ) (a : ℕ) → a < 2 ^ 64 → AreWhole page → length (page (a / 4096)) ≤ a % 4096 → IsBlank (cells_of page) a
blank page a within all past_all q same =
    let none : length (page (a / 4096)) ≡ 0 = by (cases_eq (length (page (a / 4096))) 0) in
    let low : q < 2 ^ 64 = omega arith in
    read page q low ∙ (ap (λ j. get_or (page j) (q % 4096) (pos 0)) same ∙ past (page (a / 4096)) (q % 4096) (omega arith))
  where
    by : (length (page (a / 4096)) ≡ 0) ⊎ (length (page (a / 4096)) ≢ 0) → length (page (a / 4096)) ≡ 0
    by (inl e) = e
    by (inr ne) =
        let whole = all (a / 4096) ne in
        absurd (omega arith)

-- a whole page of zeros
pub record IsFresh (n : ℕ) (xs : List ℤ) : Type 0 where
  pub size : length xs ≡ n
  pub zero_at : (i : ℕ) → get_or xs i (pos 0) ≡ pos 0

pub fresh : (n : ℕ) (xs : List ℤ) → xs ≡ replicate n (pos 0) → IsFresh n xs
fresh n xs e = record { size = ap length e ∙ length-replicate n (pos 0); zero_at = λ i. ap (λ ys. get_or ys i (pos 0)) e ∙ zeros n i }

pub fresh_length : (n : ℕ) (xs : List ℤ) (i : ℕ) (z : ℤ) → IsFresh n xs → length (set xs i z) ≡ n
fresh_length n xs i z is = length-set xs i z ∙ is.size

-- with one cell, in the place of a blank page
pub fresh_put : (page page' : ℕ → List ℤ) (a : ℕ) (z z' : ℤ) (xs : List ℤ) → a < 2 ^ 64 → IsBlank (cells_of page) a → IsFresh 4096 xs → z' ≡ z → IsPageSet page page' (a / 4096) (set xs (a % 4096) z') → IsPut page page' a z
fresh_put page page' a z z' xs within is_blank are same is = record {
  here = λ i l.
      ap (λ ys. get_or ys i (pos 0)) (is.here ∙ ap (set xs (a % 4096)) same)
      ∙ (put_in xs (a % 4096) i z (inl room) ∙ ap (λ x. cond (nat_eq i (a % 4096)) z x) (are.zero_at i ∙ sym (zero_at i l)));
  others = is.others;
} where
  room : a % 4096 < length xs
  room =
      let size = are.size in
      omega arith

  zero_at : (i : ℕ) → i < 4096 → get_or (page (a / 4096)) i (pos 0) ≡ pos 0
  zero_at i l =
      let q : ℕ = a / 4096 * 4096 + i in
      let there : q / 4096 ≡ a / 4096 = omega arith in
      let index : q % 4096 ≡ i = omega arith in
      let low : q < 2 ^ 64 = omega arith in
      ap (λ j. get_or (page j) i (pos 0)) (sym there) ∙ (ap (λ j. get_or (page (q / 4096)) j (pos 0)) (sym index) ∙ (sym (read page q low) ∙ is_blank q there))

-- what is found at an address of a page
pub found_at : (page : ℕ → List ℤ) (m : CellMap) (a : ℕ) (xs : List ℤ) → cells_of page ≡ m → a < 2 ^ 64 → xs ≡ page (a / 4096) → get_or xs (a % 4096) (pos 0) ≡ cell_at m a
found_at page m a xs view within is = ap (λ ys. get_or ys (a % 4096) (pos 0)) is ∙ (sym (read page a within) ∙ ap (λ x. cell_at x a) view)

pub found_none : (page : ℕ → List ℤ) (m : CellMap) (a : ℕ) (xs : List ℤ) → cells_of page ≡ m → a < 2 ^ 64 → xs ≡ page (a / 4096) → length xs ≤ a % 4096 → pos 0 ≡ cell_at m a
found_none page m a xs view within is past_all = sym (past xs (a % 4096) past_all) ∙ found_at page m a xs view within is

-- and a few further on in it
pub found_near : (page : ℕ → List ℤ) (m : CellMap) (a j : ℕ) (xs : List ℤ) → cells_of page ≡ m → AreWhole page → a < 2 ^ 64 → xs ≡ page (a / 4096) → a % 4096 + j < length xs → get_or xs (a % 4096 + j) (pos 0) ≡ cell_at m (a + j)
found_near page m a j xs view all within is room =
    let size : length xs ≡ 4096 = ap length is ∙ all (a / 4096) (λ none. (let zero_len : length xs ≡ 0 = ap length is ∙ none in omega arith)) in
    let same : (a + j) / 4096 ≡ a / 4096 = omega arith in
    let index : (a + j) % 4096 ≡ a % 4096 + j = omega arith in
    let low : a + j < 2 ^ 64 = omega arith in
    ap (λ i. get_or xs i (pos 0)) (sym index) ∙ found_at page m (a + j) xs view low (is ∙ ap page (sym same))

-- pages without cells
pub none_more : (front : Front) (page : Vec ℤ Global) → page.items ≡ [] → ((k : ℕ) → cells_in (slice_get front k) ≡ []) → (k : ℕ) → cells_in (slice_get (front ++ page ∷ []) k) ≡ []
none_more [] page none all zero = none
none_more [] page none all (suc k) = refl
none_more (x ∷ front) page none all zero = all 0
none_more (x ∷ front) page none all (suc k) = none_more front page none (λ j. all (suc j)) k

pub none_at : (front : Front) (behind : Behind) → behind ≡ [] → ((k : ℕ) → cells_in (slice_get front k) ≡ []) → (k : ℕ) → page_at front behind k ≡ []
unfolding page_at
none_at front behind none all k = by (nat_lt k 4096) where
  by : (b : Bool) → cond b (cells_in (slice_get front k)) (cells_in (lookup (is_at (nat_cmp k)) behind)) ≡ []
  by true = all k
  by false = ap (λ es. cells_in (lookup (is_at (nat_cmp k)) es)) none

pub paged_none : (front : Front) (behind : Behind) → length front ≡ 4096 → ((k : ℕ) → page_at front behind k ≡ []) → IsPaged front behind
paged_none front behind count all = record { count = count; whole = λ k some. absurd (some (ap length (all k))) }
