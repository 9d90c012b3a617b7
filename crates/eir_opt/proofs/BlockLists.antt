-- The operations of a block, and those from a place on.
use Rattle.std.proofs.Common.{◌≡◌, ℕ, zero, suc, ◌+◌, ◌≤◌, Bool, true, false, List, [], ◌∷◌, length, drop, None, Some, slice_get, unwrap_or, nat_lt, refl, sym, ap, ◌∙◌, add-one, arith}
use Rattle.std.specs.Option.{option_map, option_and_then}
use Rattle.std.proofs.lemmas.Bool.{ltb-true, ltb-false, lt-ltb, le-ltb}
use Rattle.std.proofs.lemmas.List.{length-map}
use Rattle.std.proofs.lemmas.Option.{slice_get-map, slice_get_past}
use Rattle.eir_core.specs.declared.ops.Op.{Op}
use Rattle.eir_core.specs.Eir.{Eir}
use Rattle.eir_core.specs.Acts.{ops_at}
use Rattle.eir_core.specs.Step.{op_in}
use Rattle.eir_opt.specs.Optimised.{with_blocks}

slice_get-nil : {A : Type 0} (i : ℕ) → slice_get {X = A} [] i ≡ None
slice_get-nil {A} i = refl

-- the operation at a place is one of its block
pub op_in-ops_at : (p : Eir) (k i : ℕ) → op_in p k i ≡ slice_get (ops_at p k) i
op_in-ops_at p k i =
    elim (slice_get p.blocks k) as (λ o. option_and_then (λ ops. slice_get ops i) o ≡ slice_get (unwrap_or o []) i)
    [ None ↦ sym (slice_get-nil {A = Op} i) | Some ops ↦ refl ]

-- the blocks of a changed program are changed
pub ops_at-with_blocks : (change : List Op → List Op) (p : Eir) (k : ℕ) → change [] ≡ [] → ops_at (with_blocks change p) k ≡ change (ops_at p k)
ops_at-with_blocks change p k none =
    ap (λ o. unwrap_or o []) (slice_get-map change p.blocks k)
    ∙ (elim (slice_get p.blocks k) as (λ o. unwrap_or (option_map change o) [] ≡ change (unwrap_or o []))
    [ None ↦ sym none | Some ops ↦ refl ])

pub count-with_blocks : (change : List Op → List Op) (p : Eir) → length (with_blocks change p).blocks ≡ length p.blocks
count-with_blocks change p = simp length-map

-- behind the last block there is no operation
pub ops_at-past : (p : Eir) (k : ℕ) → length p.blocks ≤ k → ops_at p k ≡ []
ops_at-past p k past = ap (λ o. unwrap_or o []) (slice_get_past p.blocks k past)

-- from the place of an element on the list begins with it
pub drop_from : {A : Type 0} (xs : List A) (i : ℕ) (x : A) → slice_get xs i ≡ Some x → drop i xs ≡ x ∷ drop (suc i) xs
drop_from {A} [] i x e = absurd (none (sym (slice_get-nil {A = A} i) ∙ e)) where
  none : {A : Type 0} {x : A} → None ≡ Some x → ⊥
  none e = cc
drop_from (y ∷ ys) zero x e = grind arith
drop_from (y ∷ ys) (suc i) x e = drop_from ys i x e

pub slice_get_from : {A : Type 0} (xs : List A) (i : ℕ) (x : A) (more : List A) → drop i xs ≡ x ∷ more → slice_get xs i ≡ Some x
slice_get_from [] zero x more e = absurd (cc)
slice_get_from [] (suc i) x more e = absurd (cc)
slice_get_from (y ∷ ys) zero x more e = grind arith
slice_get_from (y ∷ ys) (suc i) x more e = slice_get_from ys i x more e

pub drop_more : {A : Type 0} (xs : List A) (i : ℕ) (x : A) (more : List A) → drop i xs ≡ x ∷ more → drop (i + 1) xs ≡ more
drop_more [] zero x more e = absurd (cc)
drop_more [] (suc i) x more e = absurd (cc)
drop_more (y ∷ ys) zero x more e = cc
drop_more (y ∷ ys) (suc i) x more e = ap (λ k. drop k (y ∷ ys)) (add-one (suc i)) ∙ (ap (λ k. drop k ys) (sym (add-one i)) ∙ drop_more ys i x more e)

-- there is another element
abbrev pub has_more : {A : Type 0} → List A → Bool
has_more [] = false
has_more (x ∷ xs) = true

next_lt : (i n : ℕ) → nat_lt (suc i + 1) (suc n) ≡ nat_lt (i + 1) n
next_lt i n =
    elim (nat_lt (i + 1) n) as (λ b. nat_lt (i + 1) n ≡ b → nat_lt (suc i + 1) (suc n) ≡ b) [
      | true ↦ λ e. lt-ltb (suc i + 1) (suc n) (omega (arith, ltb-true (i + 1) n e))
      | false ↦ λ e. le-ltb (suc i + 1) (suc n) (omega (arith, ltb-false (i + 1) n e))
    ] refl

pub next-has_more : {A : Type 0} (xs : List A) (i : ℕ) (x : A) (more : List A) → drop i xs ≡ x ∷ more → nat_lt (i + 1) (length xs) ≡ has_more more
next-has_more [] zero x more e = absurd (cc)
next-has_more [] (suc i) x more e = absurd (cc)
next-has_more (y ∷ []) zero x more e = cc
next-has_more (y ∷ z ∷ zs) zero x more e = let rest : z ∷ zs ≡ more = cc in lt-ltb (0 + 1) (length (y ∷ z ∷ zs)) (omega arith) ∙ ap has_more rest
next-has_more (y ∷ ys) (suc i) x more e = next_lt i (length ys) ∙ next-has_more ys i x more e
