-- Sets of names.
use Rattle.std.proofs.Common.{◌≡◌, ℕ, Bool, true, false, ◌||◌, List, [], ◌∷◌, ◌++◌, refl, sym, ap, ◌∙◌, if◌then◌else◌}
use Rattle.std.specs.List.{list_any}
use Rattle.std.specs.Str.{bytes_eq}
use Rattle.std.specs.Cmp.Lexicographic.{bytes_decides}
use Rattle.std.proofs.lemmas.List.{map-append}
use denote.Ref.{Bor}
use Rattle.c_types.specs.Scope.{contains}
use Rattle.c_tree_names.specs.Added.{texts}
use Rattle.c_tree_names.specs.Sets.{with_name}

any_text : (ks : List (Bor (List ℕ))) (k : List ℕ) → list_any (λ y. bytes_eq k y.now) ks ≡ contains (texts ks) k
any_text [] k = refl
any_text (x ∷ ks) k = ap (λ b. bytes_eq k x.now || b) (any_text ks k)

-- a key more
pub key_put : (ks : List (Bor (List ℕ))) (k : Bor (List ℕ)) → texts (if list_any (λ y. bytes_eq k.now y.now) ks then ks else ks ++ k ∷ []) ≡ with_name (texts ks) k.now
key_put ks k = by (list_any (λ y. bytes_eq k.now y.now) ks) (any_text ks k.now) where
  by : (b : Bool) → b ≡ contains (texts ks) k.now → texts (if b then ks else ks ++ k ∷ []) ≡ with_name (texts ks) k.now
  by true e = ap (λ (t : Bool). if t then texts ks else texts ks ++ k.now ∷ []) e
  by false e = map-append (λ n. n.now) ks (k ∷ []) ∙ ap (λ (t : Bool). if t then texts ks else texts ks ++ k.now ∷ []) e

same_swap : (a b : List ℕ) → a ≡ b → bytes_eq a b ≡ bytes_eq b a
same_swap a b p = ap (λ z. bytes_eq z b) p ∙ sym (ap (λ z. bytes_eq b z) p)

pub eq_swap : (a b : List ℕ) → bytes_eq a b ≡ bytes_eq b a
eq_swap a b = by (bytes_eq a b) (bytes_eq b a) refl refl where
  by : (s t : Bool) → bytes_eq a b ≡ s → bytes_eq b a ≡ t → bytes_eq a b ≡ bytes_eq b a
  by true t e f = same_swap a b ((bytes_decides a b).0 e)
  by false true e f = same_swap a b (sym ((bytes_decides b a).0 f))
  by false false e f = e ∙ sym f

or_together : (a b c : Bool) → (a || (b || c)) ≡ ((a || b) || c)
or_together true b c = refl
or_together false b c = refl

or_nothing : (b : Bool) → (b || false) ≡ b
or_nothing true = refl
or_nothing false = refl

pub contains_more : (ks : List (List ℕ)) (k other : List ℕ) → contains (ks ++ k ∷ []) other ≡ (contains ks other || bytes_eq other k)
contains_more [] k other = or_nothing (bytes_eq other k)
contains_more (x ∷ ks) k other = ap (λ b. bytes_eq other x || b) (contains_more ks k other) ∙ or_together (bytes_eq other x) (contains ks other) (bytes_eq other k)
