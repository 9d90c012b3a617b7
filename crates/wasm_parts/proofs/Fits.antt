-- Which pages must have their bytes for bytes that go from an address on.
use Rattle.std.proofs.Common.{◌⊎◌, zero, suc, ◌≡◌, ◌≢◌, ℕ, ◌+◌, ◌-◌, ◌*◌, ◌/◌, ◌%◌, ◌<◌, ◌≤◌, List, [], ◌∷◌, length, refl, subst, ap, ◌∙◌, arith, inl, inr, true, false, Bool, not}
use Rattle.wasm_rule.specs.Memory.{ByteMap, IsBlank, WantsPage, bytes_of}
use Rattle.std.specs.Prelude.{◌==◌, OnErr}
use Rattle.std.specs.declared.result.Result.{Result}
use Rattle.std.specs.declared.result.Result.TheVariants.{Ok, Err}
use Rattle.std.proofs.lemmas.Bool.{cases_eq}
use Rattle.std.proofs.lemmas.Bool.Decides.{nat_tests}
use Rattle.wasm_parts.specs.Inside.{Table, HasByte, Fits, AreWhole, Grows, page_of}

pub length-bytes_of : (n w : ℕ) → length (bytes_of n w) ≡ n
length-bytes_of zero w = refl
length-bytes_of (suc n) w = ap suc (length-bytes_of n (w / 256))

pub fits_all : (pages : Table) (a : ℕ) (bytes : List ℕ) → ((q : ℕ) → a ≤ q → q < a + length bytes → HasByte pages q) → Fits pages a bytes
fits_all pages a [] all = tt
fits_all pages a (byte ∷ bytes) all = ((λ some. all a (omega arith) (omega arith)), fits_all pages (a + 1) bytes (λ q low high. all q (omega arith) (omega arith)))

pub fits_more : (old new : Table) (a : ℕ) (bytes : List ℕ) → Grows old new → Fits old a bytes → Fits new a bytes
fits_more old new a [] grows fits = tt
fits_more old new a (byte ∷ bytes) grows fits = ((λ some. grows.has a (fits.0 some)), fits_more old new (a + 1) bytes grows fits.1)

-- the first of the bytes that are left of a word, and the others
abbrev pub Left : (ℕ → List ℕ → Type 0) → ℕ → ℕ → ℕ → ℕ → Type 0
Left P a n k w = P (a + k) (bytes_of (n - k) w)

pub left_more : (P : ℕ → List ℕ → Type 0) (a n k w : ℕ) → k < n → P (a + k) (bytes_of (n - k) w) → P (a + k) (w % 256 ∷ bytes_of (n - (k + 1)) (w / 256))
left_more P a n k w lt h =
    let more : n - k ≡ suc (n - (k + 1)) = omega arith in
    subst (λ j. P (a + k) (bytes_of j w)) more h

pub left_less : (P : ℕ → List ℕ → Type 0) (a n k w : ℕ) → k < n → P (a + k) (w % 256 ∷ bytes_of (n - (k + 1)) (w / 256)) → P (a + k) (bytes_of (n - k) w)
left_less P a n k w lt h =
    let more : suc (n - (k + 1)) ≡ n - k = omega arith in
    subst (λ j. P (a + k) (bytes_of j w)) more h

pub next_place : (P : ℕ → List ℕ → Type 0) (a k : ℕ) (bytes : List ℕ) → P (a + k + 1) bytes → P (a + (k + 1)) bytes
next_place P a k bytes h =
    let next : a + k + 1 ≡ a + (k + 1) = omega arith in
    subst (λ j. P j bytes) next h

pub back_place : (P : ℕ → List ℕ → Type 0) (a k : ℕ) (bytes : List ℕ) → P (a + (k + 1)) bytes → P (a + k + 1) bytes
back_place P a k bytes h =
    let next : a + (k + 1) ≡ a + k + 1 = omega arith in
    subst (λ j. P j bytes) next h

-- what is left fits, once the first byte is stored
pub fits_left : (pages pages' : Table) (a n k w : ℕ) → k < n → Grows pages pages' → Fits pages (a + k) (bytes_of (n - k) w) → Fits pages' (a + (k + 1)) (bytes_of (n - (k + 1)) (w / 256))
fits_left pages pages' a n k w lt grows fits =
    let parts : Fits pages (a + k) (w % 256 ∷ bytes_of (n - (k + 1)) (w / 256)) = left_more (Fits pages) a n k w lt fits in
    fits_more pages pages' (a + (k + 1)) (bytes_of (n - (k + 1)) (w / 256)) grows (next_place (Fits pages) a k (bytes_of (n - (k + 1)) (w / 256)) parts.1)

pub fits_first : (pages : Table) (a n k w : ℕ) → k < n → Fits pages (a + k) (bytes_of (n - k) w) → w % 256 ≢ 0 → HasByte pages (a + k)
fits_first pages a n k w lt fits = (left_more (Fits pages) a n k w lt fits).0

-- all fits once what is left does, in these pages and in those that grow from them
abbrev pub Serves : Table → ℕ → ℕ → ℕ → ℕ → ℕ → Type 0
Serves pages a n k w word = (pages' : Table) → Grows pages pages' → Fits pages' (a + k) (bytes_of (n - k) w) → Fits pages' a (bytes_of n word)

grows_twice : (a b c : Table) → Grows a b → Grows b c → Grows a c
grows_twice a b c g h = record { count = h.count ∙ g.count; has = λ k there. h.has k (g.has k there); whole = λ are. h.whole (g.whole are) }

pub grows_on : (a b c : Table) → Grows a b → Grows b c → Grows a c
grows_on a b c g h = grows_twice a b c g h

pub serves_more : (pages pages' : Table) (a n k w word : ℕ) → k < n → Grows pages pages' → (w % 256 ≢ 0 → HasByte pages' (a + k)) → Serves pages a n k w word → Serves pages' a n (k + 1) (w / 256) word
serves_more pages pages' a n k w word lt grows has serves = λ later more fits.
    serves later (grows_twice pages pages' later grows more)
    (left_less (Fits later) a n k w lt ((λ some. more.has (a + k) (has some)), back_place (Fits later) a k (bytes_of (n - (k + 1)) (w / 256)) fits))

-- a page is wanted for the whole word once one is for what is left
abbrev pub Asks : ByteMap → ℕ → ℕ → ℕ → ℕ → ℕ → Type 0
Asks m a n k w word = WantsPage m (a + k) (bytes_of (n - k) w) → WantsPage m a (bytes_of n word)

pub asks_more : (m : ByteMap) (a n k w word : ℕ) → k < n → Asks m a n k w word → Asks m a n (k + 1) (w / 256) word
asks_more m a n k w word lt asks = λ wants. asks (left_less (WantsPage m) a n k w lt (inr (back_place (WantsPage m) a k (bytes_of (n - (k + 1)) (w / 256)) wants)))

pub asks_first : (m : ByteMap) (a n k w word : ℕ) → k < n → Asks m a n k w word → w % 256 ≢ 0 → IsBlank m (a + k) → WantsPage m a (bytes_of n word)
asks_first m a n k w word lt asks some blank = asks (left_less (WantsPage m) a n k w lt (inl (some, blank)))

-- up to four bytes lie in the pages of the first and the last of them
pub has_ends : (pages : Table) (a n : ℕ) → AreWhole pages → 0 < n → n ≤ 4 → 0 < length (page_of pages (a / 65536)) → 0 < length (page_of pages ((a + (n - 1)) / 65536)) → (word : ℕ) → Fits pages a (bytes_of n word)
has_ends pages a n whole some few first last word = fits_all pages a (bytes_of n word) (λ q low high. by q low high (cases_eq (q / 65536) (a / 65536))) where
  by : (q : ℕ) → a ≤ q → q < a + length (bytes_of n word) → (q / 65536 ≡ a / 65536) ⊎ (q / 65536 ≢ a / 65536) → HasByte pages q
  by q low high (inl e) =
      let size : length (page_of pages (a / 65536)) ≡ 65536 = whole (a / 65536) (λ none. omega arith) in
      rw e (omega arith)
  by q low high (inr ne) =
      let count : length (bytes_of n word) ≡ n = length-bytes_of n word in
      let there : q / 65536 ≡ (a + (n - 1)) / 65536 = omega arith in
      let size : length (page_of pages ((a + (n - 1)) / 65536)) ≡ 65536 = whole ((a + (n - 1)) / 65536) (λ none. omega arith) in
      rw there (omega arith)

pub some_of : (n : ℕ) (r : Bool) → r ≡ (n == 0) → r ≡ false → 0 < n
some_of n r e f = grind (arith, nat_tests)

pub none_of : (n : ℕ) (r : Bool) → r ≡ (n == 0) → r ≡ true → n ≡ 0
none_of n r e f = grind (arith, nat_tests)

pub on_err_always : {T E P : Type 0} (r : Result T E) → P → OnErr r P
on_err_always (Ok x) p = tt
on_err_always (Err e) p = p

-- a byte that is 0 unless its page reaches this far
pub zero_or_there : (byte i n : ℕ) → n ≤ i → (byte ≢ 0 → i < n) → byte ≡ 0
zero_or_there byte i n past fits = by (cases_eq byte 0) where
  by : (byte ≡ 0) ⊎ (byte ≢ 0) → byte ≡ 0
  by (inl e) = e
  by (inr ne) = let there : i < n = fits ne in absurd (omega arith)

pub not_true : (r : Bool) → not r ≡ true → r ≡ false
not_true r e = grind (arith, nat_tests)
