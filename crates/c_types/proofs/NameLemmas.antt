-- Names by number.
use Rattle.std.proofs.Common.{◌≡◌, ◌≢◌, ℕ, zero, suc, ◌<◌, Bool, true, false, cond, List, [], ◌∷◌, length, map, Option, Some, None, refl, sym, ap, ◌∙◌, subst, arith}
use Rattle.std.specs.Prelude.{slice_get, nat_lt, MatchOption, position}
use Rattle.std.specs.List.{IsDistinct, AllByRecursion, list_any, position_or_len}
use Rattle.std.specs.Str.{bytes_eq}
use Rattle.std.specs.Cmp.Lexicographic.{bytes_decides}
use Rattle.std.proofs.lemmas.Option.{slice_get_within}
use Rattle.std.proofs.lemmas.Bool.Decides.{nat_tests}
use denote.Ref.{Bor}
use Rattle.c_types.specs.Table.{texts}
use Rattle.c_types.proofs.TableLemmas.{no_place, none_there, there_at}

text_at : (ks : List (Bor (List ℕ))) (n : ℕ) (name : List ℕ) → slice_get (texts ks) n ≡ Some name → (k : Bor (List ℕ)) × (slice_get ks n ≡ Some k) × (k.now ≡ name)
text_at [] n name h = cc
text_at (k ∷ ks) zero name h = (k, refl, cc)
text_at (k ∷ ks) (suc n) name h = text_at ks n name h

at_text : (ks : List (Bor (List ℕ))) (n : ℕ) (k : Bor (List ℕ)) → slice_get ks n ≡ Some k → slice_get (texts ks) n ≡ Some k.now
at_text [] n k h = cc
at_text (x ∷ ks) zero k h = let e : x ≡ k = cc in ap (λ (y : Bor (List ℕ)). Some y.now) e
at_text (x ∷ ks) (suc n) k h = at_text ks n k h

not_here : (ks : List (Bor (List ℕ))) (k : Bor (List ℕ)) → AllByRecursion (λ y. bytes_eq k.now y.now ≡ false) ks → (n : ℕ) → slice_get (texts ks) n ≡ Some k.now → ⊥
not_here [] k all n h = cc
not_here (y ∷ ks) k all zero h =
    let same : k.now ≡ y.now = cc in
    let yes : bytes_eq k.now y.now ≡ true = (bytes_decides k.now y.now).1 same in
    let no : bytes_eq k.now y.now ≡ false = all.0 in cc
not_here (y ∷ ks) k all (suc n) h = not_here ks k all.1 n h

-- names that differ have one number each
pub names_apart : (ks : List (Bor (List ℕ))) → IsDistinct (λ x y. bytes_eq x.now y.now) ks → (m n : ℕ) (name : List ℕ) → slice_get (texts ks) m ≡ Some name → slice_get (texts ks) n ≡ Some name → m ≡ n
unfolding IsDistinct
names_apart [] all m n name g h = cc
names_apart (k ∷ ks) all zero zero name g h = refl
names_apart (k ∷ ks) all zero (suc n) name g h = absurd (not_here ks k all.0 n (h ∙ sym g))
names_apart (k ∷ ks) all (suc m) zero name g h = absurd (not_here ks k all.0 m (g ∙ sym h))
names_apart (k ∷ ks) all (suc m) (suc n) name g h = ap suc (names_apart ks all.1 m n name g h)

abbrev IsNumberOf : List (Bor (List ℕ)) → List ℕ → Option ℕ → Type 0
IsNumberOf ks name o = MatchOption o ((n : ℕ) → slice_get (texts ks) n ≢ Some name) (λ n. slice_get (texts ks) n ≡ Some name)

abbrev test : List ℕ → Bor (List ℕ) → Bool
test name k = bytes_eq name k.now

placed : (n len : ℕ) → n < len → cond (nat_lt n len) (Some n) None ≡ Some n
placed n len h = let e : nat_lt n len ≡ true = grind (arith, nat_tests) in ap (λ b. cond b (Some n) None) e

nowhere : (n len : ℕ) → n ≡ len → cond (nat_lt n len) (Some n) None ≡ None
nowhere n len h = let e : nat_lt n len ≡ false = grind (arith, nat_tests) in ap (λ b. cond b (Some n) None) e

-- the number that a set of names finds
pub number_found : (ks : List (Bor (List ℕ))) (name : List ℕ) (o : Option ℕ) → o ≡ position (λ k. bytes_eq name k.now) ks → IsNumberOf ks name o
number_found ks name o at = by (list_any (test name) ks) refl where
  by : (b : Bool) → list_any (test name) ks ≡ b → IsNumberOf ks name o
  by true e =
      let x = there_at (test name) ks e in
      let within : position_or_len (test name) ks < length ks = slice_get_within ks (position_or_len (test name) ks) x.0 x.1 in
      let found : o ≡ Some (position_or_len (test name) ks) = at ∙ placed (position_or_len (test name) ks) (length ks) within in
      let same : name ≡ x.0.now = (bytes_decides name x.0.now).0 x.2 in
      subst (IsNumberOf ks name) (sym found) (at_text ks (position_or_len (test name) ks) x.0 x.1 ∙ ap (λ (n : List ℕ). Some n) (sym same))
  by false e =
      let none : o ≡ None = at ∙ nowhere (position_or_len (test name) ks) (length ks) (no_place (test name) ks e) in
      subst (IsNumberOf ks name) (sym none) (λ n h.
      let k = text_at ks n name h in
      none_there (test name) ks e n k.0 k.1 ((bytes_decides name k.0.now).1 (sym k.2)))
