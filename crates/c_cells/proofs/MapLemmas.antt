-- What a map finds behind an insertion.
use Rattle.std.proofs.Common.{◌≡◌, Bool, true, false, List, [], ◌∷◌, Some, refl, sym, ap, subst, ◌∙◌, if◌then◌else◌, arith}
use Rattle.std.specs.Prelude.{nat_eq}
use Rattle.std.specs.Map.{lookup}
use Rattle.std.proofs.lemmas.Bool.Decides.{nat_tests}
use Rattle.ordered.specs.Order.{insert_entry}

-- a test of equality
pub record Decides {A : Type 0} (eq : A → A → Bool) : Type 0 where
  pub same : (x y : A) → eq x y ≡ true → x ≡ y
  pub equal : (x y : A) → x ≡ y → eq x y ≡ true

-- keys are compared by a part of theirs
pub inserted : {K A X : Type 0} (key : K → A) (eq : A → A → Bool) → Decides eq → (a : A) (es : List (K × X)) (k : K) (v : X)
    → lookup (λ j. eq a (key j)) (insert_entry (λ x y. eq (key x) (key y)) es k v) ≡ (if eq a (key k) then Some v else lookup (λ j. eq a (key j)) es)
inserted key eq d a [] k v = refl
inserted {K} {A} {X} key eq d a (e ∷ es) k v = at (inserted key eq d a es k v) (eq (key k) (key e.0)) refl where
  there : (same : Bool) → (if same then Some v else lookup (λ j. eq a (key j)) es) ≡ (if same then Some v else (if same then Some e.1 else lookup (λ j. eq a (key j)) es))
  there true = refl
  there false = refl

  apart : (x y : Bool) → ((x ≡ true) → (y ≡ true) → ⊥)
      → (if x then Some e.1 else (if y then Some v else lookup (λ j. eq a (key j)) es)) ≡ (if y then Some v else (if x then Some e.1 else lookup (λ j. eq a (key j)) es))
  apart true true h = absurd (h refl refl)
  apart true false h = refl
  apart false y h = refl

  at : lookup (λ j. eq a (key j)) (insert_entry (λ x y. eq (key x) (key y)) es k v) ≡ (if eq a (key k) then Some v else lookup (λ j. eq a (key j)) es)
      → (same : Bool) → eq (key k) (key e.0) ≡ same
      → lookup (λ j. eq a (key j)) (if same then (e.0, v) ∷ es else e ∷ insert_entry (λ x y. eq (key x) (key y)) es k v)
      ≡ (if eq a (key k) then Some v else (if eq a (key e.0) then Some e.1 else lookup (λ j. eq a (key j)) es))
  at step true f =
      subst (λ (n : A). (if eq a n then Some v else lookup (λ j. eq a (key j)) es) ≡ (if eq a (key k) then Some v else (if eq a n then Some e.1 else lookup (λ j. eq a (key j)) es)))
      (d.same (key k) (key e.0) f) (there (eq a (key k)))
  at step false f =
      ap (λ r. if eq a (key e.0) then Some e.1 else r) step
      ∙ apart (eq a (key e.0)) (eq a (key k)) (λ p q.
      let same : key k ≡ key e.0 = sym (d.same a (key k) q) ∙ d.same a (key e.0) p in
      let met : eq (key k) (key e.0) ≡ true = d.equal (key k) (key e.0) same in cc)

pub numbers : Decides nat_eq
numbers = record { same = λ x y e. grind (arith, nat_tests); equal = λ x y e. grind (arith, nat_tests) }
