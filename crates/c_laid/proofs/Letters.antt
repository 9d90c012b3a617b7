-- The literals of a text, one after the other.
use Rattle.std.proofs.Common.{◌≡◌, ℕ, zero, suc, ◌+◌, ◌<◌, ◌≤◌, Bool, true, false, ◌&&◌, ◌==◌, List, [], ◌∷◌, ◌++◌, length, Option, Some, None, refl, sym, ap, ◌∙◌, subst, arith, slice_get, if◌then◌else◌, length-append}
use Rattle.std.specs.List.{flat_map}
use Rattle.std.specs.Str.{bytes_eq}
use Rattle.std.proofs.lemmas.Slice.Eq.{bytes_eq-Decides}
use Rattle.c_eval.specs.Memory.{same_owner}
use Rattle.c_lowered.specs.Whole.{Literals, letter_words, all_letters, letters_before, literal_address}
use Rattle.c_laid.specs.Data.{literal_text}
use Rattle.c_laid.proofs.Slices.{get_front, get_behind, get_inside}

-- each letter of a text, and its zero
pub letter_there : (text : List ℕ) (k : ℕ) → k ≤ length text → (c : ℕ) × (slice_get (text ++ 0 ∷ []) k ≡ Some c)
letter_there [] zero le = (0, refl)
letter_there [] (suc k) le = absurd (omega (arith, le))
letter_there (c ∷ text) zero le = (c, refl)
letter_there (c ∷ text) (suc k) le = letter_there text k (omega (arith, le))

texts_at : (texts : List (List ℕ)) (i k : ℕ) (text : List ℕ) (c : ℕ) → slice_get texts i ≡ Some text → slice_get (text ++ 0 ∷ []) k ≡ Some c → slice_get (flat_map letter_words texts) (letters_before i texts + k) ≡ Some c
texts_at [] i k text c e f = absurd (cc e)
texts_at (t ∷ texts) zero k text c e f =
    let is : t ≡ text = cc e in
    let f1 : slice_get (letter_words t) k ≡ Some c = ap (λ z. slice_get (z ++ 0 ∷ []) k) is ∙ f in
    let at : letters_before 0 (t ∷ texts) + k ≡ k = omega arith in
    ap (λ z. slice_get (flat_map letter_words (t ∷ texts)) z) at ∙ get_front (letter_words t) (flat_map letter_words texts) k c f1
texts_at (t ∷ texts) (suc i) k text c e f =
    let n = length-append t (0 ∷ []) in
    let at : letters_before (suc i) (t ∷ texts) + k ≡ length (letter_words t) + (letters_before i texts + k) = omega (arith, n) in
    ap (λ z. slice_get (flat_map letter_words (t ∷ texts)) z) at ∙ (get_behind (letter_words t) (flat_map letter_words texts) (letters_before i texts + k) ∙ texts_at texts i k text c e f)

-- what holds of all letters of a text by their places holds of each literal's
pub letters_have : (P : ℕ → ℕ → Type 0) (l : Literals) (a : ℕ) → ((j n : ℕ) → slice_get (all_letters l) j ≡ Some n → P (a + j) n) → (owner : Option (List ℕ)) (i k : ℕ) (text : List ℕ) (c : ℕ) → literal_text l owner i ≡ Some text → slice_get (text ++ 0 ∷ []) k ≡ Some c → P (literal_address l a owner i + k) c
letters_have P [] a there owner i k text c e f = absurd (cc e)
letters_have P (entry ∷ more) a there owner i k text c e f =
    go (λ e1. letters_have P more (a + length (flat_map letter_words entry.1)) later owner i k text c e1 f) (same_owner entry.0 owner) e
  where
    own : List ℕ
    own = flat_map letter_words entry.1

    later : (j n : ℕ) → slice_get (all_letters more) j ≡ Some n → P (a + length (flat_map letter_words entry.1) + j) n
    later j n h =
        let at : a + (length (flat_map letter_words entry.1) + j) ≡ a + length (flat_map letter_words entry.1) + j = omega arith in
        subst (λ z. P z n) at (there (length (flat_map letter_words entry.1) + j) n (get_behind (flat_map letter_words entry.1) (all_letters more) j ∙ h))

    go : (literal_text more owner i ≡ Some text → P (literal_address more (a + length (flat_map letter_words entry.1)) owner i + k) c) → (b : Bool) → (if b then slice_get entry.1 i else literal_text more owner i) ≡ Some text
        → P ((if b then a + letters_before i entry.1 else literal_address more (a + length (flat_map letter_words entry.1)) owner i) + k) c
    go next true e =
        let at : a + (letters_before i entry.1 + k) ≡ a + letters_before i entry.1 + k = omega arith in
        subst (λ z. P z c) at (there (letters_before i entry.1 + k) c (get_front (flat_map letter_words entry.1) (all_letters more) (letters_before i entry.1 + k) c (texts_at entry.1 i k text c e f)))
    go next false e = next e

-- ---- literals have no word in common

texts_apart : (texts : List (List ℕ)) (i j k l : ℕ) (text more : List ℕ) → slice_get texts i ≡ Some text → slice_get texts j ≡ Some more → k ≤ length text → l ≤ length more → letters_before i texts + k ≡ letters_before j texts + l → i ≡ j
texts_apart [] i j k l text more e f kl ll h = absurd (cc e)
texts_apart (t ∷ texts) zero zero k l text more e f kl ll h = refl
texts_apart (t ∷ texts) zero (suc j) k l text more e f kl ll h = let is : t ≡ text = cc e in let n : length t ≡ length text = ap length is in absurd (omega (arith, h, kl, n))
texts_apart (t ∷ texts) (suc i) zero k l text more e f kl ll h = let is : t ≡ more = cc f in let n : length t ≡ length more = ap length is in absurd (omega (arith, h, ll, n))
texts_apart (t ∷ texts) (suc i) (suc j) k l text more e f kl ll h = ap suc (texts_apart texts i j k l text more e f kl ll (omega (arith, h)))

owners_same : (x a b : Option (List ℕ)) → same_owner x a ≡ true → same_owner x b ≡ true → same_owner a b ≡ true
owners_same None None None e f = refl
owners_same None None (Some b) e f = absurd (cc f)
owners_same None (Some a) b e f = absurd (cc e)
owners_same (Some x) None b e f = absurd (cc e)
owners_same (Some x) (Some a) None e f = absurd (cc f)
owners_same (Some x) (Some a) (Some b) e f = (bytes_eq-Decides a b).1 (sym ((bytes_eq-Decides x a).0 e) ∙ (bytes_eq-Decides x b).0 f)

both : (a b : Bool) → a ≡ true → b ≡ true → (a && b) ≡ true
both true true e f = refl
both true false e f = f
both false b e f = absurd (cc e)

-- the words of literals from an entry on lie behind those before it
above : (l : Literals) (a : ℕ) (owner : Option (List ℕ)) (i k : ℕ) (text : List ℕ) → literal_text l owner i ≡ Some text → k ≤ length text → a ≤ literal_address l a owner i + k
above l a owner i k text e le = let c = letter_there text k le in letters_have (λ q n. a ≤ q) l a (λ j n h. omega arith) owner i k text c.0 e c.1

pub letters_apart : (l : Literals) (a : ℕ) (owner other : Option (List ℕ)) (i j : ℕ) (text more : List ℕ) (k m : ℕ) → literal_text l owner i ≡ Some text → literal_text l other j ≡ Some more → k ≤ length text → m ≤ length more
    → literal_address l a owner i + k ≡ literal_address l a other j + m → (same_owner owner other && i == j) ≡ true
letters_apart [] a owner other i j text more k m e f kl ml h = absurd (cc e)
letters_apart (entry ∷ rest) a owner other i j text more k m e f kl ml h =
    go (λ e1 f1 h1. letters_apart rest (a + length (flat_map letter_words entry.1)) owner other i j text more k m e1 f1 kl ml h1) (same_owner entry.0 owner) refl (same_owner entry.0 other) refl e f h
  where
    behind : ℕ
    behind = a + length (flat_map letter_words entry.1)

    -- a literal of the entry lies before those of the rest
    before : (n q : ℕ) (t : List ℕ) → slice_get entry.1 n ≡ Some t → q ≤ length t → letters_before n entry.1 + q < length (flat_map letter_words entry.1)
    before n q t e le = let c = letter_there t q le in get_inside (flat_map letter_words entry.1) (letters_before n entry.1 + q) c.0 (texts_at entry.1 n q t c.0 e c.1)

    go : (literal_text rest owner i ≡ Some text → literal_text rest other j ≡ Some more → literal_address rest (a + length (flat_map letter_words entry.1)) owner i + k ≡ literal_address rest (a + length (flat_map letter_words entry.1)) other j + m → (same_owner owner other && i == j) ≡ true) → (x : Bool) → same_owner entry.0 owner ≡ x → (y : Bool) → same_owner entry.0 other ≡ y → (if x then slice_get entry.1 i else literal_text rest owner i) ≡ Some text → (if y then slice_get entry.1 j else literal_text rest other j) ≡ Some more
        → (if x then a + letters_before i entry.1 else literal_address rest (a + length (flat_map letter_words entry.1)) owner i) + k ≡ (if y then a + letters_before j entry.1 else literal_address rest (a + length (flat_map letter_words entry.1)) other j) + m → (same_owner owner other && i == j) ≡ true
    go next true x true y e f h =
        let same = texts_apart entry.1 i j k m text more e f kl ml (omega (arith, h)) in
        let t : (i == j) ≡ true = grind (arith, same) in
        both (same_owner owner other) (i == j) (owners_same entry.0 owner other x y) t
    go next true x false y e f h = absurd (let p = before i k text e kl in let q = above rest behind other j m more f ml in omega (arith, h, p, q))
    go next false x true y e f h = absurd (let p = before j m more f ml in let q = above rest behind owner i k text e kl in omega (arith, h, p, q))
    go next false x false y e f h = next e f h
