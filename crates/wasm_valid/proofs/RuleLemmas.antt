-- The types of a module's functions.
use Rattle.std.proofs.Common.{◌≡◌, ℕ, zero, suc, ◌≤◌, true, ◌&&◌, List, [], ◌∷◌, map, length, Option, Some, None, sym, ap, subst, ◌∙◌}
use Rattle.std.specs.Prelude.{slice_get, nat_lt, nat_le, IsTrue, IfSome}
use Rattle.std.specs.List.{list_all}
use Rattle.std.specs.Option.{option_and_then}
use Rattle.std.proofs.lemmas.List.Folds.{list_all-append, list_all-map}
use Rattle.wasm_bin.specs.declared.module.Module.{Module}
use Rattle.wasm_bin.specs.declared.module.FuncType.{FuncType}
use Rattle.wasm_valid.specs.Context.{context_of, type_indices, GivesFew}
use Rattle.wasm_valid.proofs.Levels.{and_both, true_le}
use Rattle.wasm_valid.specs.Rules.{have_few_results, have_types}

-- the imported functions and the others
pub have_types-parts : (m : Module) → have_types m ≡ (list_all (λ i. nat_lt i.kind (length m.types)) m.imports && list_all (λ index. nat_lt index (length m.types)) m.funcs)
have_types-parts m =
    let p = λ (index : ℕ). nat_lt index (length m.types) in
    list_all-append p (map (λ i. i.kind) m.imports) m.funcs
    ∙ ap (λ b. b && list_all p m.funcs) (list_all-map p (λ i. i.kind) m.imports)

-- a function type of the list gives one value at most
few_at : (types : List FuncType) (k : ℕ) → list_all (λ t. nat_le t.results 1) types ≡ true → IfSome (slice_get types k) (λ t. t.results ≤ 1)
few_at [] k e = tt
few_at (t ∷ types) zero e = let h : nat_le t.results 1 ≡ true = (and_both (nat_le t.results 1) (list_all (λ t. nat_le t.results 1) types) e).0 in true_le t.results 1 h
few_at (t ∷ types) (suc k) e = few_at types k (and_both (nat_le t.results 1) (list_all (λ t. nat_le t.results 1) types) e).1

few_then : (types : List FuncType) (o : Option ℕ) → list_all (λ t. nat_le t.results 1) types ≡ true → IfSome (option_and_then (slice_get types) o) (λ t. t.results ≤ 1)
few_then types None e = tt
few_then types (Some k) e = few_at types k e

few_of : (o : Option FuncType) (t : FuncType) → IfSome o (λ t. t.results ≤ 1) → o ≡ Some t → t.results ≤ 1
few_of None t h e = cc
few_of (Some u) t h e = let f : u ≡ t = cc in subst (λ (v : FuncType). v.results ≤ 1) f h

-- the functions of a module give one value at most
pub GivesFew-context_of : (m : Module) (locals : ℕ) (k : Option ℕ) (t : FuncType) → IsTrue (have_few_results m) → Some t ≡ option_and_then (slice_get m.types) k → GivesFew (context_of m locals t.results)
GivesFew-context_of m locals k t h e =
    let all : have_few_results m ≡ true = h in
    (few_of (option_and_then (slice_get m.types) k) t (few_then m.types k all) (sym e), λ index. few_then m.types (slice_get (type_indices m) index) all)
