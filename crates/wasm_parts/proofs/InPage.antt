-- Words that lie in one page.
use Rattle.std.proofs.Common.{◌≡◌, ◌≢◌, ◌⊎◌, inl, inr, ℕ, zero, suc, ◌+◌, ◌*◌, ◌/◌, ◌%◌, ◌^◌, ◌<◌, ◌≤◌, List, [], ◌∷◌, ◌++◌, length, set, get_or, take, drop, true, nat_le, refl, sym, subst, ap, ◌∙◌, arith}
use Rattle.std.specs.Prelude.{Vec}
use Rattle.std.specs.Vec.{with_item}
use Rattle.std.specs.declared.alloc.Global.{Global}
use Rattle.std.proofs.lemmas.Bool.{cases_eq}
use Rattle.std.proofs.lemmas.Bool.Decides.{nat_tests}
use Rattle.std.proofs.lemmas.List.{length-set, set-set, take_all, take-append-le}
use Rattle.wasm_rule.specs.Memory.{byte_at, with_byte, with_bytes, word_at}
use Rattle.wasm_parts.specs.Inside.{Table, page_of, with_bytes_in, word_in, bytes_of_pages}
use Rattle.wasm_parts.proofs.Paged.{page_of-set_same, page_of-set_other, same_pages, stored, loaded, changed_byte}

pub length-with_bytes_in : (page : List ℕ) (i : ℕ) (bytes : List ℕ) → length (with_bytes_in page i bytes) ≡ length page
length-with_bytes_in page i [] = refl
length-with_bytes_in page i (byte ∷ bytes) = length-with_bytes_in (set page i byte) (i + 1) bytes ∙ length-set page i byte

-- a list that was lent whole and written back
pub written_back : (old new : List ℕ) (len : ℕ) → len ≡ length old → length new ≡ length old → take len (new ++ drop (length new) old) ≡ new
written_back old new len e same = take-append-le len new (drop (length new) old) (omega (arith, e, same)) ∙ take_all len new (omega (arith, e, same))

-- a page in its own place
kept_page : (pages : Table) (k : ℕ) (page : Vec ℕ Global) → k < length pages → page.items ≡ page_of pages k → (j : ℕ) → page_of (set pages k page) j ≡ page_of pages j
kept_page pages k page there is j = by (cases_eq j k) where
  by : (j ≡ k) ⊎ (j ≢ k) → page_of (set pages k page) j ≡ page_of pages j
  by (inl e) = ap (page_of (set pages k page)) e ∙ (page_of-set_same pages k page there ∙ (is ∙ ap (page_of pages) (sym e)))
  by (inr ne) = page_of-set_other pages k j page ne

-- bytes that are stored in a page are stored in the memory
pub stored_in : (pages : Table) (page page' : Vec ℕ Global) (k i a : ℕ) (bytes : List ℕ) → a ≡ 65536 * k + i → k < length pages → a + length bytes ≤ 2 ^ 48 → i + length bytes ≤ 65536 → i + length bytes ≤ length page.items → page.items ≡ page_of pages k
    → page'.items ≡ with_bytes_in page.items i bytes → bytes_of_pages (set pages k page') ≡ with_bytes (bytes_of_pages pages) a bytes
stored_in pages page page' k i a [] at there low inside enough is new = same_pages pages (set pages k page') (kept_page pages k page' there (new ∙ is))
stored_in pages page page' k i a (byte ∷ bytes) at there low inside enough is new =
    let first : Vec ℕ Global = with_item page i byte in
    let changed : Table = set pages k first in
    let here : a / 65536 ≡ k = omega arith in
    let index : a % 65536 ≡ i = omega arith in
    let one : bytes_of_pages changed ≡ with_byte (bytes_of_pages pages) a byte =
    subst (λ (j : ℕ). bytes_of_pages (set pages j first) ≡ with_byte (bytes_of_pages pages) a byte) here
    (stored pages first a byte (omega arith) (omega arith) (changed_byte pages page.items first.items a byte (is ∙ ap (page_of pages) (sym here)) (omega arith) (ap (λ j. set page.items j byte) (sym index)))) in
    let count : length changed ≡ length pages = length-set pages k first in
    let size : length first.items ≡ length page.items = length-set page.items i byte in
    let more : bytes_of_pages (set changed k page') ≡ with_bytes (bytes_of_pages changed) (a + 1) bytes =
    stored_in changed first page' k (i + 1) (a + 1) bytes (omega arith) (omega arith) (omega arith) (omega arith) (omega arith) (sym (page_of-set_same pages k first there)) new in
    ap bytes_of_pages (sym (set-set pages k first page')) ∙ (more ∙ ap (λ m. with_bytes m (a + 1) bytes) one)

-- what a page spells is what the memory spells
pub loaded_in : (pages : Table) (page : List ℕ) (k i a n : ℕ) → a ≡ 65536 * k + i → a + n ≤ 2 ^ 48 → i + n ≤ 65536 → page ≡ page_of pages k → word_at (bytes_of_pages pages) a n ≡ word_in page i n
loaded_in pages page k i a zero at low inside is = refl
loaded_in pages page k i a (suc n) at low inside is =
    let here : a / 65536 ≡ k = omega arith in
    let index : a % 65536 ≡ i = omega arith in
    let byte : byte_at (bytes_of_pages pages) a ≡ get_or page i 0 =
    loaded pages a (omega arith) ∙ (ap (λ j. get_or (page_of pages j) (a % 65536) 0) here ∙ (ap (λ j. get_or (page_of pages k) j 0) index ∙ ap (λ ws. get_or ws i 0) (sym is))) in
    ap (λ b. b + 256 * word_at (bytes_of_pages pages) (a + 1) n) byte
    ∙ ap (λ w. get_or page i 0 + 256 * w) (loaded_in pages page k (i + 1) (a + 1) n (omega arith) (omega arith) (omega arith) is)

-- a page that reaches beyond an index has all its bytes
pub whole_page : (pages : Table) (k i n : ℕ) → (length (page_of pages k) ≢ 0 → length (page_of pages k) ≡ 65536) → i + n ≤ length (page_of pages k) → 0 < n → i + n ≤ 65536
whole_page pages k i n whole inside some = let size : length (page_of pages k) ≡ 65536 = whole (λ none. omega arith) in omega arith

pub at_most : (a b : ℕ) → nat_le a b ≡ true → a ≤ b
at_most a b e = grind (arith, nat_tests)
