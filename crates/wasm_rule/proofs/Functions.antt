-- Functions by their index among all of a module, where the imports are counted first.
use Rattle.std.proofs.Common.{◌≡◌, ◌⊎◌, ⊎_elim, ℕ, zero, suc, ◌-◌, ◌<◌, ◌≤◌, Bool, true, List, [], ◌∷◌, ◌++◌, length, map, Some, None, refl, sym, ap, subst, ◌∙◌, inl, inr, arith}
use Rattle.std.specs.Prelude.{slice_get}
use Rattle.std.specs.List.{list_all}
use Rattle.std.specs.Option.{option_and_then}
use Rattle.std.proofs.lemmas.Option.{slice_get_within}
use Rattle.wasm_bin.specs.declared.module.FuncType.{FuncType}
use Rattle.wasm_bin.specs.declared.module.Import.{Import}
use Rattle.wasm_bin.specs.declared.module.Module.{Module}
use Rattle.wasm_valid.specs.Context.{function_type}
use Rattle.wasm_valid.specs.Rules.{own_type}
use Rattle.wasm_valid.proofs.Levels.{and_both}

-- an element of two lists is one of the first, or else of the second
pub among : {A B : Type 0} (f : A → B) (xs : List A) (ys : List B) (k : ℕ) → ((x : A) × (slice_get xs k ≡ Some x) × (slice_get (map f xs ++ ys) k ≡ Some (f x))) ⊎ ((slice_get xs k ≡ None) × (slice_get (map f xs ++ ys) k ≡ slice_get ys (k - length xs)))
among f [] ys zero = inr (refl, refl)
among f [] ys (suc k) = let same : suc k ≡ suc k - 0 = omega arith in inr (refl, ap (slice_get ys) same)
among f (x ∷ xs) ys zero = inl (x, refl, refl)
among f (x ∷ xs) ys (suc k) = let same : k - length xs ≡ suc k - length (x ∷ xs) = omega arith in subst (λ n. ((x' : _) × (slice_get xs k ≡ Some x') × (slice_get (map f xs ++ ys) k ≡ Some (f x'))) ⊎ ((slice_get xs k ≡ None) × (slice_get (map f xs ++ ys) k ≡ slice_get ys n))) same (among f xs ys k)

-- a test that all pass is passed by each
pub passed : {X : Type 0} (test : X → Bool) (xs : List X) (k : ℕ) (x : X) → list_all test xs ≡ true → slice_get xs k ≡ Some x → test x ≡ true
passed test [] zero x h e = absurd cc
passed test [] (suc k) x h e = absurd cc
passed test (y ∷ xs) zero x h e = let same : y ≡ x = cc in subst (λ z. test z ≡ true) same (and_both (test y) (list_all test xs) h).0
passed test (y ∷ xs) (suc k) x h e = passed test xs k x (and_both (test y) (list_all test xs) h).1 e

-- the type of an own function by its index among all
pub own_is : (m : Module) (k : ℕ) (t : FuncType) → function_type m k ≡ Some t → length m.imports ≤ k → own_type m (k - length m.imports) ≡ Some t
own_is m k t e le = ⊎_elim (λ h. let lt : k < length m.imports = slice_get_within m.imports k h.0 h.1 in absurd (omega arith)) (λ h. sym (ap (option_and_then (slice_get m.types)) h.1) ∙ e) (among (λ (i : Import). i.kind) m.imports m.funcs k)
