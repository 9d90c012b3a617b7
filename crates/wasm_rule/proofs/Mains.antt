-- Which function is `main`: the one that an export shows, and in a valid module the only one.
use Rattle.std.proofs.Common.{zero, suc, ◌≡◌, ◌⊎◌, ⊎_elim, ℕ, ◌<◌, Bool, true, false, cond, List, [], ◌∷◌, length, get_or, Some, None, refl, sym, ap, ◌∙◌, arith}
use Rattle.std.specs.Str.{bytes_eq}
use Rattle.std.proofs.lemmas.Slice.Eq.{bytes_eq-Decides}
use Rattle.wasm_valid.specs.Rules.{HaveDistinctNames}
use Rattle.wasm_valid.proofs.Levels.{and_both}
use Rattle.wasm_bin.specs.declared.module.Export.{Export}
use Rattle.wasm_bin.specs.declared.module.Module.{Module}
use Rattle.wasm_rule.specs.Laws.{IsMainAt}
use Rattle.wasm_rule.specs.Start.{main_name, main_in, is_main}

later : (m : Module) (export : Export) (exports : List Export) (index k : ℕ) → IsMainAt m exports index k → IsMainAt m (export ∷ exports) index (suc k)
later m export exports index k h = let lt = h.within in record { within = omega arith; is = h.is; index_is = h.index_is }

-- what is found is shown
pub main_shown : (m : Module) (exports : List Export) (index : ℕ) → main_in m exports ≡ Some index → (k : ℕ) × IsMainAt m exports index k
main_shown m [] index e = absurd cc
main_shown m (export ∷ exports) index e = by_test (is_main m export) (λ i f. main_shown m exports i f) refl e
  where
    by_test : (b : Bool) → ((i : ℕ) → main_in m exports ≡ Some i → (k : ℕ) × IsMainAt m exports i k) → is_main m export ≡ b → cond b (Some export.index) (main_in m exports) ≡ Some index → (k : ℕ) × IsMainAt m (export ∷ exports) index k
    by_test true others h f = (0, record { within = omega arith; is = λ none. h; index_is = λ none. cc })
    by_test false others h f = let found = others index f in (suc found.0, later m export exports index found.0 found.1)

-- where none is found, no export is one
pub no_main : (m : Module) (exports : List Export) → main_in m exports ≡ None → (k : ℕ) (none : Export) → k < length exports → is_main m (get_or exports k none) ≡ false
no_main m [] e k none lt = absurd (omega arith)
no_main m (export ∷ exports) e k none lt = by_test (is_main m export) (λ f j le. no_main m exports f j none le) refl e k lt
  where
    by_test : (b : Bool) → (main_in m exports ≡ None → (j : ℕ) → j < length exports → is_main m (get_or exports j none) ≡ false) → is_main m export ≡ b → cond b (Some export.index) (main_in m exports) ≡ None → (k : ℕ) → k < length (export ∷ exports) → is_main m (get_or (export ∷ exports) k none) ≡ false
    by_test true others h f k lt = absurd cc
    by_test false others h f zero lt = h
    by_test false others h f (suc k) lt = others f k (omega arith)

same_text : (xs ys : List ℕ) → bytes_eq xs ys ≡ true → xs ≡ ys
same_text xs ys h = (bytes_eq-Decides xs ys).0 h

is_called : (m : Module) (e : Export) → is_main m e ≡ true → e.name ≡ main_name
is_called m e h = same_text e.name main_name (and_both (bytes_eq e.name main_name) _ h).0

three_ways : (j k : ℕ) → (j < k) ⊎ ((k < j) ⊎ (j ≡ k))
three_ways j k = grind arith

-- where no two exports have one name, there is one main at most
pub one_main : (m : Module) (none : Export) (index other j k : ℕ) → HaveDistinctNames m.exports → IsMainAt m m.exports index j → IsMainAt m m.exports other k → index ≡ other
one_main m none index other j k distinct x y =
    let first = is_called m (get_or m.exports j none) (x.is none) in
    let second = is_called m (get_or m.exports k none) (y.is none) in
    ⊎_elim (λ before. absurd (distinct j k none before y.within (first ∙ sym second)))
    (λ rest. ⊎_elim (λ behind. absurd (distinct k j none behind x.within (second ∙ sym first))) (λ e. sym (x.index_is none) ∙ (ap (λ n. (get_or m.exports n none).index) e ∙ y.index_is none)) rest)
    (three_ways j k)
