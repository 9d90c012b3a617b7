-- What pages have at an address, before and after one of them changes.
use Rattle.std.proofs.Common.{◌≡◌, ◌≢◌, ◌⊎◌, inl, inr, ℕ, zero, suc, ◌+◌, ◌*◌, ◌/◌, ◌%◌, ◌^◌, ◌<◌, ◌≤◌, true, false, cond, List, [], ◌∷◌, ◌++◌, length, set, get_or, replicate, refl, sym, ap, ◌∙◌, nat_eq, arith}
use Rattle.std.specs.Prelude.{Vec}
use Rattle.std.specs.declared.alloc.Global.{Global}
use Rattle.std.proofs.lemmas.Bool.{cases_eq}
use Rattle.std.proofs.lemmas.List.{length-set, get_or-set_same, get_or-set_other, length-replicate, get_or-replicate, get_or_past}
use Rattle.wasm_rule.specs.Memory.{byte_at, with_byte, IsBlank}
use Rattle.wasm_parts.specs.Inside.{Table, page_of, byte_in, bytes_of_pages, HasByte, AreWhole, Grows}
use Rattle.std.specs.FinMap as map
use Rattle.wasm_parts.proofs.Below.{byte_below, below_alike, below_changed, below_empty}

-- bytes of a list
at-set : (bytes : List ℕ) (k j b : ℕ) → k < length bytes → get_or (set bytes k b) j 0 ≡ cond (nat_eq j k) b (get_or bytes j 0)
at-set bytes k j b h = by (cases_eq j k) where
  by : (j ≡ k) ⊎ (j ≢ k) → get_or (set bytes k b) j 0 ≡ cond (nat_eq j k) b (get_or bytes j 0)
  by (inl e) =
      let test : nat_eq j k ≡ true = grind arith in
      rw (test, e) (get_or-set_same bytes k b 0 h)
  by (inr ne) =
      let test : nat_eq j k ≡ false = grind arith in
      rw test (get_or-set_other bytes k j b 0 ne)

-- pages of a table
pub page_of-get : (pages : Table) (k : ℕ) (d : Vec ℕ Global) → k < length pages → (get_or pages k d).items ≡ page_of pages k
page_of-get [] k d h = absurd (omega arith)
page_of-get (x ∷ pages) zero d h = refl
page_of-get (x ∷ pages) (suc k) d h = page_of-get pages k d (omega arith)

pub page_of-set_same : (pages : Table) (k : ℕ) (page : Vec ℕ Global) → k < length pages → page_of (set pages k page) k ≡ page.items
page_of-set_same [] k page h = absurd (omega arith)
page_of-set_same (x ∷ pages) zero page h = refl
page_of-set_same (x ∷ pages) (suc k) page h = page_of-set_same pages k page (omega arith)

pub page_of-set_other : (pages : Table) (k j : ℕ) (page : Vec ℕ Global) → j ≢ k → page_of (set pages k page) j ≡ page_of pages j
page_of-set_other [] k j page ne = refl
page_of-set_other (x ∷ pages) zero zero page ne = absurd (ne refl)
page_of-set_other (x ∷ pages) zero (suc j) page ne = refl
page_of-set_other (x ∷ pages) (suc k) zero page ne = refl
page_of-set_other (x ∷ pages) (suc k) (suc j) page ne = page_of-set_other pages k j page (λ e. ne (ap suc e))

-- one more page without bytes
pub page_of-more : (pages : Table) (page : Vec ℕ Global) → page.items ≡ [] → (k : ℕ) → page_of (pages ++ page ∷ []) k ≡ page_of pages k
page_of-more [] page none zero = none
page_of-more [] page none (suc k) = refl
page_of-more (x ∷ pages) page none zero = refl
page_of-more (x ∷ pages) page none (suc k) = page_of-more pages page none k

-- another page in the place of one
pub whole_set : (pages : Table) (k : ℕ) (page : Vec ℕ Global) → AreWhole pages → k < length pages → (length page.items ≢ 0 → length page.items ≡ 65536) → AreWhole (set pages k page)
whole_set pages k page are within whole j = by (cases_eq j k) where
  by : (j ≡ k) ⊎ (j ≢ k) → length (page_of (set pages k page) j) ≢ 0 → length (page_of (set pages k page) j) ≡ 65536
  by (inl e) =
      let there : page_of (set pages k page) j ≡ page.items = ap (page_of (set pages k page)) e ∙ page_of-set_same pages k page within in
      rw there whole
  by (inr ne) = rw (page_of-set_other pages k j page ne) (are j)

same_test : (q a : ℕ) → q / 65536 ≡ a / 65536 → nat_eq (q % 65536) (a % 65536) ≡ nat_eq q a
same_test q a same = by (cases_eq (q % 65536) (a % 65536)) where
  by : (q % 65536 ≡ a % 65536) ⊎ (q % 65536 ≢ a % 65536) → nat_eq (q % 65536) (a % 65536) ≡ nat_eq q a
  by (inl e) =
      let whole : q ≡ a = omega arith in
      let left : nat_eq (q % 65536) (a % 65536) ≡ true = grind arith in
      let right : nat_eq q a ≡ true = grind arith in
      left ∙ sym right
  by (inr ne) =
      let other : q ≢ a = λ e. ne (ap (λ x. x % 65536) e) in
      let left : nat_eq (q % 65536) (a % 65536) ≡ false = grind arith in
      let right : nat_eq q a ≡ false = grind arith in
      left ∙ sym right

-- the page has another byte at the index of the address, and else what the page had that stood in its place
abbrev pub IsChanged : Table → List ℕ → ℕ → ℕ → Type 0
IsChanged pages page a b = (i : ℕ) → i < 65536 → get_or page i 0 ≡ cond (nat_eq i (a % 65536)) b (get_or (page_of pages (a / 65536)) i 0)

byte_in-set : (pages : Table) (page : Vec ℕ Global) (a b : ℕ) → a / 65536 < length pages → IsChanged pages page.items a b → (q : ℕ) → byte_in (set pages (a / 65536) page) q ≡ cond (nat_eq q a) b (byte_in pages q)
unfolding byte_in
byte_in-set pages page a b within changed q = by (cases_eq (q / 65536) (a / 65536)) where
  by : (q / 65536 ≡ a / 65536) ⊎ (q / 65536 ≢ a / 65536) → get_or (page_of (set pages (a / 65536) page) (q / 65536)) (q % 65536) 0 ≡ cond (nat_eq q a) b (get_or (page_of pages (q / 65536)) (q % 65536) 0)
  by (inl e) =
      let low : q % 65536 < 65536 = omega arith in
      ap (λ j. get_or (page_of (set pages (a / 65536) page) j) (q % 65536) 0) e
      ∙ (ap (λ ws. get_or ws (q % 65536) 0) (page_of-set_same pages (a / 65536) page within)
      ∙ (changed (q % 65536) low
      ∙ (ap (λ t. cond t b (get_or (page_of pages (a / 65536)) (q % 65536) 0)) (same_test q a e)
      ∙ ap (λ j. cond (nat_eq q a) b (get_or (page_of pages j) (q % 65536) 0)) (sym e))))
  by (inr ne) =
      let other : q ≢ a = λ e. ne (ap (λ x. x / 65536) e) in
      let test : nat_eq q a ≡ false = grind arith in
      ap (λ ws. get_or ws (q % 65536) 0) (page_of-set_other pages (a / 65536) (q / 65536) page ne)
      ∙ sym (ap (λ t. cond t b (get_or (page_of pages (q / 65536)) (q % 65536) 0)) test)

-- what is stored
pub stored : (pages : Table) (page : Vec ℕ Global) (a b : ℕ) → a < 2 ^ 48 → a / 65536 < length pages → IsChanged pages page.items a b → bytes_of_pages (set pages (a / 65536) page) ≡ with_byte (bytes_of_pages pages) a b
unfolding bytes_of_pages
stored pages page a b within there changed = below_changed (2 ^ 48) (byte_in pages) (byte_in (set pages (a / 65536) page)) a b within (λ q l. byte_in-set pages page a b there changed q)

-- what is loaded
pub loaded : (pages : Table) (a : ℕ) → a < 2 ^ 48 → byte_at (bytes_of_pages pages) a ≡ get_or (page_of pages (a / 65536)) (a % 65536) 0
unfolding bytes_of_pages byte_in
loaded pages a within = byte_below (2 ^ 48) (byte_in pages) a within

-- the same pages have the same bytes
pub same_pages : (pages pages' : Table) → ((k : ℕ) → page_of pages' k ≡ page_of pages k) → bytes_of_pages pages' ≡ bytes_of_pages pages
unfolding bytes_of_pages byte_in
same_pages pages pages' same = below_alike (2 ^ 48) (byte_in pages) (byte_in pages') (λ q l. ap (λ ws. get_or ws (q % 65536) 0) (same (q / 65536)))

-- no pages have no bytes
pub no_bytes : (pages : Table) → pages ≡ [] → bytes_of_pages pages ≡ map.empty
unfolding bytes_of_pages byte_in
no_bytes pages none = below_empty (2 ^ 48) (byte_in pages) (λ q l. ap (λ (ps : Table). get_or (page_of ps (q / 65536)) (q % 65536) 0) none)

pub zeros_count : (bytes : List ℕ) (n : ℕ) → bytes ≡ replicate n 0 → length bytes ≡ n
zeros_count bytes n e = ap length e ∙ length-replicate n 0

zeros_at : (bytes : List ℕ) (n i : ℕ) → bytes ≡ replicate n 0 → i < n → get_or bytes i 0 ≡ 0
zeros_at bytes n i e low = ap (λ ws. get_or ws i 0) e ∙ get_or-replicate n i 0 0 low

-- a page of zeros that takes the place of one without bytes changes nothing
pub same_zeros : (pages : Table) (k n : ℕ) (page : Vec ℕ Global) → n ≡ 65536 → k < length pages → length (page_of pages k) ≡ 0 → page.items ≡ replicate n 0 → bytes_of_pages (set pages k page) ≡ bytes_of_pages pages
unfolding bytes_of_pages byte_in
same_zeros pages k n page size within none zeros = below_alike (2 ^ 48) (byte_in pages) (byte_in (set pages k page)) (λ q l. by q (cases_eq (q / 65536) k)) where
  by : (q : ℕ) → (q / 65536 ≡ k) ⊎ (q / 65536 ≢ k) → get_or (page_of (set pages k page) (q / 65536)) (q % 65536) 0 ≡ get_or (page_of pages (q / 65536)) (q % 65536) 0
  by q (inl e) =
      let low : q % 65536 < n = omega arith in
      let past : length (page_of pages (q / 65536)) ≤ q % 65536 = rw e (omega arith) in
      ap (λ j. get_or (page_of (set pages k page) j) (q % 65536) 0) e
      ∙ (ap (λ ws. get_or ws (q % 65536) 0) (page_of-set_same pages k page within)
      ∙ (zeros_at page.items n (q % 65536) zeros low ∙ sym (get_or_past (page_of pages (q / 65536)) (q % 65536) 0 past)))
  by q (inr ne) = ap (λ ws. get_or ws (q % 65536) 0) (page_of-set_other pages k (q / 65536) page ne)

-- a page in the place of one that has no more bytes
pub grows_set : (pages : Table) (k : ℕ) (page : Vec ℕ Global) → k < length pages → length (page_of pages k) ≤ length page.items → (AreWhole pages → length page.items ≢ 0 → length page.items ≡ 65536) → Grows pages (set pages k page)
grows_set pages k page within enough whole = record {
  count = length-set pages k page;
  has = λ a there. by a there (cases_eq (a / 65536) k);
  whole = λ are. whole_set pages k page are within (whole are);
} where
  by : (a : ℕ) → HasByte pages a → (a / 65536 ≡ k) ⊎ (a / 65536 ≢ k) → HasByte (set pages k page) a
  by a there (inl e) =
      let same : page_of (set pages k page) (a / 65536) ≡ page.items = ap (page_of (set pages k page)) e ∙ page_of-set_same pages k page within in
      let was : length (page_of pages (a / 65536)) ≡ length (page_of pages k) = ap (λ j. length (page_of pages j)) e in
      rw same (omega arith)
  by a there (inr ne) = rw (page_of-set_other pages k (a / 65536) page ne) there

-- a page without bytes is blank
pub blank : (pages : Table) (a : ℕ) → a < 2 ^ 48 → length (page_of pages (a / 65536)) ≡ 0 → IsBlank (bytes_of_pages pages) a
blank pages a within none q same =
    let low : q < 2 ^ 48 = omega arith in
    let past : length (page_of pages (q / 65536)) ≤ q % 65536 = rw same (omega arith) in
    loaded pages q low ∙ get_or_past (page_of pages (q / 65536)) (q % 65536) 0 past

-- a page that is kept, where there is no byte and 0 is stored
pub changed_not : (pages : Table) (page : List ℕ) (a b : ℕ) → page ≡ page_of pages (a / 65536) → length page ≤ a % 65536 → b ≡ 0 → IsChanged pages page a b
changed_not pages page a b is past none i low = by (cases_eq i (a % 65536)) where
  by : (i ≡ a % 65536) ⊎ (i ≢ a % 65536) → get_or page i 0 ≡ cond (nat_eq i (a % 65536)) b (get_or (page_of pages (a / 65536)) i 0)
  by (inl e) =
      let test : nat_eq i (a % 65536) ≡ true = grind arith in
      let high : length page ≤ i = omega arith in
      get_or_past page i 0 high ∙ (sym none ∙ sym (ap (λ t. cond t b (get_or (page_of pages (a / 65536)) i 0)) test))
  by (inr ne) =
      let test : nat_eq i (a % 65536) ≡ false = grind arith in
      ap (λ ws. get_or ws i 0) is ∙ sym (ap (λ t. cond t b (get_or (page_of pages (a / 65536)) i 0)) test)

-- a page with another byte in the place of one of its bytes
pub changed_byte : (pages : Table) (page page' : List ℕ) (a b : ℕ) → page ≡ page_of pages (a / 65536) → a % 65536 < length page → page' ≡ set page (a % 65536) b → IsChanged pages page' a b
changed_byte pages page page' a b is within new i low =
    ap (λ ws. get_or ws i 0) new ∙ (at-set page (a % 65536) i b within ∙ ap (λ ws. cond (nat_eq i (a % 65536)) b (get_or ws i 0)) is)
