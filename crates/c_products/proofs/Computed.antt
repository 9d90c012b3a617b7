-- The helper functions of products and of quotients without sign, in a text that has them.
use Rattle.std.proofs.Common.{◌≡◌, ℕ, ◌+◌, ◌*◌, ◌/◌, ◌%◌, ◌^◌, ◌<◌, ◌≤◌, List, [], ◌∷◌, Some, Bool, true, false, cond, nat_lt, nat_le, ap, ◌∙◌, arith}
use Rattle.std.specs.Prelude.{◌&&◌}
use Rattle.std.proofs.lemmas.Bool.{and_parts, ltb-true}
use Rattle.c_types.specs.Types.{Tags}
use Rattle.c_types.specs.Scope.{Names}
use Rattle.c_eval.specs.State.{Word, Object, State}
use Rattle.c_eval.specs.Text.{Text, function_named}
use Rattle.c_eval.specs.Helpers.{Helpers}
use Rattle.c_helpers.specs.Functions.{product, unsigned_quotient}
use Rattle.c_apart.proofs.Apart.{Done, nobody, p_function}
use Rattle.c_apart.proofs.Splitting.{stuck_splits}
use Rattle.c_apart.proofs.Uses.{computes}
use Rattle.c_products.proofs.Product.{product_definition, product_runs}
use Rattle.c_products.proofs.Quotient.{quotient_definition, quotient_units, quotient_runs}
use Rattle.c_products.proofs.Nested.{OnWords}

abbrev pub are_words : ℕ → ℕ → Bool
are_words x y = nat_lt x (2 ^ 24) && nat_lt y (2 ^ 24)

abbrev pub are_divisible : ℕ → ℕ → Bool
are_divisible x y = are_words x y && nat_lt 0 y

module _ (h : Helpers) (t : Text) (input : List ℕ) (tags : Tags) (names : Names) (defined : List (List ℕ)) (words : ℕ) where
  pub products : function_named t product.name ≡ Some (product_definition tags names defined) → h.charge product.name ≤ words → OnWords h t input product.name are_words (λ x y. 24) 24 words (λ x y. x * y % 2 ^ 24)
  products found fits = record {
    computes = λ x y ok. computes h t input product.name (product_definition tags names defined) 24 words (Word x ∷ Word y ∷ []) (Word (x * y % 2 ^ 24)) found fits (λ deep. nobody) (λ deep lt n g us. stuck_splits)
        (λ deep k st lt e small. go deep k x y st lt e (and_parts (nat_lt x (2 ^ 24)) (nat_lt y (2 ^ 24)) ok));
    bounded = λ x y. omega arith;
  }
    where
      go : (deep k x y : ℕ) (st : State) → 24 < deep → st.spare ≡ 24 + k → (nat_lt x (2 ^ 24) ≡ true) × (nat_lt y (2 ^ 24) ≡ true)
          → (own : List Object) × (p_function (product_definition tags names defined) deep nobody (Word x ∷ Word y ∷ []) (record st { words = st.words + h.charge product.name }) [] ≡ Done (Word (x * y % 2 ^ 24)) (record st { spare = k; words = st.words + h.charge product.name }) own)
      go deep k x y st lt e both =
          let r = product_runs tags names defined deep k x y (record st { words = st.words + h.charge product.name }) lt (ltb-true x (2 ^ 24) both.0) (ltb-true y (2 ^ 24) both.1) in
          (r.0, ap (λ z. p_function (product_definition tags names defined) deep nobody (Word x ∷ Word y ∷ []) (record st { spare = z; words = st.words + h.charge product.name }) []) e ∙ r.1)

  pub quotients : function_named t unsigned_quotient.name ≡ Some (quotient_definition tags names defined) → h.charge unsigned_quotient.name ≤ words → OnWords h t input unsigned_quotient.name are_divisible (λ x y. quotient_units y) 24 words (λ x y. x / y)
  quotients found fits = record {
    computes = λ x y ok. computes h t input unsigned_quotient.name (quotient_definition tags names defined) (quotient_units y) words (Word x ∷ Word y ∷ []) (Word (x / y)) found fits (λ deep. nobody) (λ deep lt n g us. stuck_splits)
        (λ deep k st lt e small. go deep k x y st lt e (and_parts (are_words x y) (nat_lt 0 y) ok) (and_parts (nat_lt x (2 ^ 24)) (nat_lt y (2 ^ 24)) (and_parts (are_words x y) (nat_lt 0 y) ok).0));
    bounded = λ x y. few (nat_le (2 ^ 23) y);
  }
    where
      few : (b : Bool) → cond b 0 24 ≤ 24
      few true = omega arith
      few false = omega arith

      go : (deep k x y : ℕ) (st : State) → quotient_units y < deep → st.spare ≡ quotient_units y + k → (are_words x y ≡ true) × (nat_lt 0 y ≡ true) → (nat_lt x (2 ^ 24) ≡ true) × (nat_lt y (2 ^ 24) ≡ true)
          → (own : List Object) × (p_function (quotient_definition tags names defined) deep nobody (Word x ∷ Word y ∷ []) (record st { words = st.words + h.charge unsigned_quotient.name }) [] ≡ Done (Word (x / y)) (record st { spare = k; words = st.words + h.charge unsigned_quotient.name }) own)
      go deep k x y st lt e some both =
          let r = quotient_runs tags names defined deep k x y (record st { words = st.words + h.charge unsigned_quotient.name }) lt (ltb-true x (2 ^ 24) both.0) (ltb-true y (2 ^ 24) both.1) (ltb-true 0 y some.1) in
          (r.0, ap (λ z. p_function (quotient_definition tags names defined) deep nobody (Word x ∷ Word y ∷ []) (record st { spare = z; words = st.words + h.charge unsigned_quotient.name }) []) e ∙ r.1)
