-- The function that a run starts with.
use Rattle.std.proofs.Common.{zero, suc, ◌≡◌, ◌≢◌, ⊎_elim, ℕ, ◌-◌, ◌≤◌, Bool, true, false, cond, ◌&&◌, ◌||◌, nat_eq, nat_lt, List, [], ◌∷◌, length, Option, Some, None, refl, sym, ap, ◌∙◌, arith, subst}
use Rattle.std.specs.Prelude.{slice_get}
use Rattle.std.specs.Option.{option_and_then}
use Rattle.std.proofs.lemmas.Bool.{eqb-true, ltb-true}
use Rattle.wasm_bin.specs.declared.module.Export.{Export}
use Rattle.wasm_bin.specs.declared.module.FuncType.{FuncType}
use Rattle.wasm_bin.specs.declared.module.Import.{Import}
use Rattle.wasm_bin.specs.declared.module.Module.{Module}
use Rattle.wasm_valid.specs.Context.{type_indices, function_type}
use Rattle.wasm_rule.specs.Rule.{new_call}
use Rattle.wasm_rule.specs.Start.{is_type, is_known, are_known, is_main, main_in, main_of, first_call}
use Rattle.wasm_rule.proofs.Functions.{among, passed}

and_first : (a b : Bool) → (a && b) ≡ true → a ≡ true
and_first true b h = refl
and_first false b h = h

and_second : (a b : Bool) → (a && b) ≡ true → b ≡ true
and_second true b h = h
and_second false b h = absurd cc

-- a type takes one number of values and gives one
only_params : (p q : ℕ) (r s : Bool) (n : ℕ) → p ≢ q → (nat_eq n p && r) ≡ true → (nat_eq n q && s) ≡ false
only_params p q r s n ne h =
    let is : n ≡ p = eqb-true n p (and_first (nat_eq n p) r h) in
    elim (nat_eq n q) as (λ b. nat_eq n q ≡ b → (b && s) ≡ false) [ true ↦ λ e. absurd (ne (sym is ∙ eqb-true n q e)) | false ↦ λ e. refl ] refl

only_results : (p q : ℕ) (r s : Bool) (n : ℕ) → p ≢ q → (r && nat_eq n p) ≡ true → (s && nat_eq n q) ≡ false
only_results p q r true n ne h =
    let is : n ≡ p = eqb-true n p (and_second r (nat_eq n p) h) in
    elim (nat_eq n q) as (λ b. nat_eq n q ≡ b → b ≡ false) [ true ↦ λ e. absurd (ne (sym is ∙ eqb-true n q e)) | false ↦ λ e. refl ] refl
only_results p q r false n ne h = refl

no_results : (kind : Option FuncType) → is_type 0 0 kind ≡ true → is_type 0 1 kind ≡ false
no_results None h = refl
no_results (Some kind) h = only_results 0 1 (nat_eq kind.params 0) (nat_eq kind.params 0) kind.results (λ e. omega arith) h

no_params : (kind : Option FuncType) → is_type 0 0 kind ≡ true → is_type 1 0 kind ≡ false
no_params None h = refl
no_params (Some kind) h = only_params 0 1 (nat_eq kind.results 0) (nat_eq kind.results 0) kind.params (λ e. omega arith) h

neither : (e g p : Bool) → (e && ((g && false) || (p && false))) ≡ true → ⊥
neither true true true h = cc
neither true true false h = cc
neither true false true h = cc
neither true false false h = cc
neither false g p h = cc

unknown : (e g p t u : Bool) → t ≡ false → u ≡ false → (e && ((g && t) || (p && u))) ≡ true → ⊥
unknown e g p t u f k h = neither e g p (sym (ap (λ x. e && ((g && x) || (p && u))) f ∙ ap (λ x. e && ((g && false) || (p && x))) k) ∙ h)

-- no import that is known has the type of `main`
import_apart : (m : Module) (import : Import) → is_known m import ≡ true → is_type 0 0 (slice_get m.types import.kind) ≡ true → ⊥
import_apart m import h t = unknown _ _ _ _ _ (no_results (slice_get m.types import.kind) t) (no_params (slice_get m.types import.kind) t) h

-- where nothing is found, the list has ended
none_past : {A : Type 0} (xs : List A) (k : ℕ) → slice_get xs k ≡ None → length xs ≤ k
none_past [] k e = omega arith
none_past (x ∷ xs) zero e = absurd cc
none_past (x ∷ xs) (suc k) e = let h = none_past xs k e in omega arith

-- `main` has its type
pub main_type : (m : Module) (exports : List Export) (index : ℕ) → main_in m exports ≡ Some index → is_type 0 0 (function_type m index) ≡ true
main_type m [] index h = absurd cc
main_type m (export ∷ exports) index h =
    elim (is_main m export) as (λ b. is_main m export ≡ b → cond b (Some export.index) (main_in m exports) ≡ Some index → is_type 0 0 (function_type m index) ≡ true) [
      | true ↦ λ t e.
          let same : export.index ≡ index = cc in
          subst (λ k. is_type 0 0 (function_type m k) ≡ true) same (and_second (nat_eq export.sort 0) _ (and_second _ _ t))
      | false ↦ λ t e. main_type m exports index e
    ] refl h

-- `main` is no import
pub main_own : (m : Module) (index : ℕ) → are_known m ≡ true → main_of m ≡ Some index → length m.imports ≤ index
main_own m index h e = ⊎_elim (λ i. absurd (imported i.0 i.1 i.2)) (λ o. none_past m.imports index o.0) (among (λ (i : Import). i.kind) m.imports m.funcs index)
  where
    imported : (i : Import) → slice_get m.imports index ≡ Some i → slice_get (type_indices m) index ≡ Some i.kind → ⊥
    imported i at is = import_apart m i (passed (is_known m) m.imports index i h at) (sym (ap (λ o. is_type 0 0 (option_and_then (slice_get m.types) o)) is) ∙ main_type m m.exports index e)

pub main_call : (m : Module) (main : ℕ) → main_of m ≡ Some main → length m.imports ≤ main → first_call m (main_of m) ≡ new_call m (main - length m.imports) [] ∷ []
main_call m main e le =
    ap (first_call m) e
    ∙ elim (nat_lt main (length m.imports)) as (λ b. nat_lt main (length m.imports) ≡ b → cond b [] (new_call m (main - length m.imports) [] ∷ []) ≡ new_call m (main - length m.imports) [] ∷ []) [
      | true ↦ λ b. absurd (omega (arith, ltb-true main (length m.imports) b))
      | false ↦ λ b. refl
    ] refl
