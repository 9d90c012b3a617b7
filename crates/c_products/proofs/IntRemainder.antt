-- The helper function of what is left of ints computes it.
use Rattle.std.proofs.Common.{◌≡◌, ⊎_elim, ℕ, zero, suc, ◌+◌, ◌-◌, ◌*◌, ◌/◌, ◌%◌, ◌^◌, ◌<◌, ◌≤◌, List, [], ◌∷◌, Some, Bool, true, false, refl, sym, ap, ap₂, ◌∙◌, arith, mul_comm}
use Rattle.std.specs.Prelude.{pos, neg_ℤ, ◌-ℤ◌, int_div, int_rem, ℤ, negsuc}
use Rattle.std.proofs.lemmas.Bool.{cases_lt, le-leb}
use Rattle.std.proofs.lemmas.Nat.{div-add-mod'}
use Rattle.word24.specs.Word.{difference_word, signed_of}
use Rattle.c_syntax.specs.Words.{meaning}
use Rattle.c_types.specs.Types as type
use Rattle.c_types.specs.Types.{Tags}
use Rattle.c_types.specs.Constants.{wrapped}
use Rattle.c_types.specs.Scope.{Names}
use Rattle.c_eval.specs.State.{Word, State}
use Rattle.c_eval.specs.Run.{unless, give}
use Rattle.c_eval.specs.Operators.{used, of_word, word_result, on_words, sum, difference, operated}
use Rattle.c_helpers.specs.Functions.{int_quotient, product, int_remainder}
use Rattle.c_apart.proofs.Apart.{Done, p_computed, p_after, p_bind, p_give, p_stuck, p_choose, p_given, p_outer, p_named, p_read, p_load, p_put, p_write, p_store, p_own_value, p_assigned, p_variable, p_used, p_unary, p_compared, p_operated, p_combined, p_cast, p_assignment, p_call, p_first, p_go_on, p_within, p_enter, p_leave, p_returned, p_result, p_function}
use Rattle.c_apart.proofs.Words.{int_difference}
use Rattle.c_products.specs.Found.{binary_definition, binary_entity}
use Rattle.c_products.proofs.Product.{holding}
use Rattle.c_products.proofs.Nested.{p_on_words}
use Rattle.c_products.proofs.Remainder.{p_two}
use Rattle.c_products.proofs.Arithmetic.{low_is, high_is, both_lack, unsigned_quotient_is, low_by_high, high_by_low, high_by_high}

-- the word of the quotient
abbrev pub int_quotient_word : ℕ → ℕ → ℕ
int_quotient_word x y = wrapped (int_div (signed_of x) (signed_of y))

pub int_remainder_runs : (tags : Tags) (names : Names) (defined : List (List ℕ)) (deep x y words words' : ℕ) (ok ok' : ℕ → ℕ → Bool) (cost : ℕ → ℕ → ℕ) (st : State) (f g : Bool)
    → meaning names int_quotient.name ≡ Some (binary_entity type.Int f) → meaning names product.name ≡ Some (binary_entity type.Int g)
    → ok x y ≡ true → ok' y (int_quotient_word x y) ≡ true → suc (cost x y) ≤ st.spare → 25 ≤ st.spare - suc (cost x y) → st.words + words ≤ 1024 → st.words + words' ≤ 1024
    → p_function (binary_definition type.Int int_remainder tags names defined) deep (p_two int_quotient.name (p_on_words ok cost words int_quotient_word) product.name (p_on_words ok' (λ x y. 24) words' (λ x y. x * y % 2 ^ 24))) (Word x ∷ Word y ∷ []) st []
    ≡ Done (Word (wrapped (signed_of x -ℤ signed_of (y * int_quotient_word x y % 2 ^ 24)))) (record st { spare = st.spare - suc (cost x y) - 25 }) (holding false x ∷ holding false y ∷ holding false (int_quotient_word x y) ∷ holding false (y * int_quotient_word x y % 2 ^ 24) ∷ [])
unfolding p_two p_on_words p_computed p_after p_bind p_give p_stuck p_choose p_given p_outer p_named p_read p_load p_put p_write p_store p_own_value p_assigned p_variable p_used p_unary p_compared p_operated p_combined p_cast p_assignment p_call p_first p_go_on p_within p_enter p_leave p_returned p_result p_function used give unless of_word word_result on_words sum difference operated
int_remainder_runs tags names defined deep x y words words' ok ok' cost st f g e e' o o' le le' small small' =
    rw (e, o, le-leb (suc (cost x y)) st.spare le, le-leb (st.words + words) 1024 small, e', o', le-leb 25 (st.spare - suc (cost x y)) le', le-leb (st.words + words') 1024 small') refl

-- ---- its value: what is left of the sizes, with the sign of the dividend

low_rem_low : (x y : ℕ) → x < 2 ^ 24 → wrapped (int_rem (pos x) (pos y)) ≡ x % y
low_rem_low x y a = grind (arith, a)

low_rem_high : (x v : ℕ) → x < 2 ^ 24 → wrapped (int_rem (pos x) (neg_ℤ (pos v))) ≡ x % v
low_rem_high x v a = grind (arith, a)

high_rem_low : (u y : ℕ) → u < 2 ^ 24 → wrapped (int_rem (neg_ℤ (pos u)) (pos y)) ≡ difference_word 0 (u % y)
high_rem_low u y a = grind (arith, a)

high_rem_high : (u v : ℕ) → u < 2 ^ 24 → wrapped (int_rem (neg_ℤ (pos u)) (neg_ℤ (pos v))) ≡ difference_word 0 (u % v)
high_rem_high u v a = grind (arith, a)

-- a factor that is turned turns the product
turned : (y q d : ℕ) → q + d ≡ 2 ^ 24 → y * d < 2 ^ 24 → y * q % 2 ^ 24 ≡ difference_word 0 (y * d)
turned y q d e lt = let times : y * (q + d) ≡ y * 2 ^ 24 = ap (λ z. y * z) e in omega (arith, times, lt)

minus_turns : (y d : ℕ) → d < 2 ^ 24 → y * d < 2 ^ 24 → y * difference_word 0 (d % 2 ^ 24) % 2 ^ 24 ≡ difference_word 0 (y * d)
minus_turns y zero lt less = ap (λ z. y * z % 2 ^ 24) none ∙ omega arith
  where
    none : difference_word 0 (0 % 2 ^ 24) ≡ 0
    none = refl
minus_turns y (suc d) lt less = turned y (difference_word 0 (suc d % 2 ^ 24)) (suc d) (omega (arith, lt)) less

both_turn : (y v d : ℕ) → y + v ≡ 2 ^ 24 → d < 2 ^ 24 → v * d < 2 ^ 24 → y * difference_word 0 (d % 2 ^ 24) % 2 ^ 24 ≡ v * d
both_turn y v zero e lt less = ap (λ z. y * z % 2 ^ 24) none ∙ omega arith
  where
    none : difference_word 0 (0 % 2 ^ 24) ≡ 0
    none = refl
both_turn y v (suc d) e lt less = sym (both_lack y v (difference_word 0 (suc d % 2 ^ 24)) (suc d) e (omega (arith, lt))) ∙ omega (arith, less)

-- the parts of a size
record Parts (u v : ℕ) : Type 0 where
  sum : v * (u / v) + u % v ≡ u
  few : u / v ≤ u

parts : (u v : ℕ) → Parts u v
parts u v = record { sum = ap (λ z. z + u % v) (mul_comm v (u / v)) ∙ div-add-mod' u v; few = grind arith }

-- words of which each lacks the size of one below zero
pub int_left_over : (x y : ℕ) → x < 2 ^ 24 → y < 2 ^ 24 → wrapped (signed_of x -ℤ signed_of (y * int_quotient_word x y % 2 ^ 24)) ≡ wrapped (int_rem (signed_of x) (signed_of y))
int_left_over x y sx sy = int_difference x (y * int_quotient_word x y % 2 ^ 24) sx (omega arith) ∙ ⊎_elim (λ lx. ⊎_elim (low_low lx) (low_high lx) (cases_lt y (2 ^ 23))) (λ hx. ⊎_elim (high_low hx) (high_high hx) (cases_lt y (2 ^ 23))) (cases_lt x (2 ^ 23))
  where
    goal : Type 0
    goal = difference_word x (y * int_quotient_word x y % 2 ^ 24) ≡ wrapped (int_rem (signed_of x) (signed_of y))

    low_low : x < 2 ^ 23 → y < 2 ^ 23 → difference_word x (y * int_quotient_word x y % 2 ^ 24) ≡ wrapped (int_rem (signed_of x) (signed_of y))
    low_low a b =
        let p : Parts x y = parts x y in
        let quotient : int_quotient_word x y ≡ x / y = ap₂ (λ s t. wrapped (int_div s t)) (low_is x a) (low_is y b) ∙ unsigned_quotient_is x y sx in
        let left : wrapped (int_rem (signed_of x) (signed_of y)) ≡ x % y = ap₂ (λ s t. wrapped (int_rem s t)) (low_is x a) (low_is y b) ∙ low_rem_low x y sx in
        ap (λ z. difference_word x (y * z % 2 ^ 24)) quotient ∙ (omega (arith, p.sum, sx) ∙ sym left)

    low_high : x < 2 ^ 23 → 2 ^ 23 ≤ y → difference_word x (y * int_quotient_word x y % 2 ^ 24) ≡ wrapped (int_rem (signed_of x) (signed_of y))
    low_high a b =
        let p : Parts x (2 ^ 24 - y) = parts x (2 ^ 24 - y) in
        let quotient : int_quotient_word x y ≡ difference_word 0 (x / (2 ^ 24 - y) % 2 ^ 24) = ap₂ (λ s t. wrapped (int_div s t)) (low_is x a) (high_is y b sy) ∙ low_by_high x (2 ^ 24 - y) in
        let left : wrapped (int_rem (signed_of x) (signed_of y)) ≡ x % (2 ^ 24 - y) = ap₂ (λ s t. wrapped (int_rem s t)) (low_is x a) (high_is y b sy) ∙ low_rem_high x (2 ^ 24 - y) sx in
        let times : y * difference_word 0 (x / (2 ^ 24 - y) % 2 ^ 24) % 2 ^ 24 ≡ (2 ^ 24 - y) * (x / (2 ^ 24 - y)) = both_turn y (2 ^ 24 - y) (x / (2 ^ 24 - y)) (omega (arith, sy)) (omega (arith, p.few, sx)) (omega (arith, p.sum, sx)) in
        ap (λ z. difference_word x (y * z % 2 ^ 24)) quotient ∙ (ap (difference_word x) times ∙ (omega (arith, p.sum, sx) ∙ sym left))

    high_low : 2 ^ 23 ≤ x → y < 2 ^ 23 → difference_word x (y * int_quotient_word x y % 2 ^ 24) ≡ wrapped (int_rem (signed_of x) (signed_of y))
    high_low a b =
        let p : Parts (2 ^ 24 - x) y = parts (2 ^ 24 - x) y in
        let quotient : int_quotient_word x y ≡ difference_word 0 ((2 ^ 24 - x) / y % 2 ^ 24) = ap₂ (λ s t. wrapped (int_div s t)) (high_is x a sx) (low_is y b) ∙ high_by_low (2 ^ 24 - x) y in
        let left : wrapped (int_rem (signed_of x) (signed_of y)) ≡ difference_word 0 ((2 ^ 24 - x) % y) = ap₂ (λ s t. wrapped (int_rem s t)) (high_is x a sx) (low_is y b) ∙ high_rem_low (2 ^ 24 - x) y (omega (arith, a)) in
        let times : y * difference_word 0 ((2 ^ 24 - x) / y % 2 ^ 24) % 2 ^ 24 ≡ difference_word 0 (y * ((2 ^ 24 - x) / y)) = minus_turns y ((2 ^ 24 - x) / y) (omega (arith, p.few, a)) (omega (arith, p.sum, a)) in
        ap (λ z. difference_word x (y * z % 2 ^ 24)) quotient ∙ (ap (difference_word x) times ∙ (omega (arith, p.sum, sx, a) ∙ sym left))

    high_high : 2 ^ 23 ≤ x → 2 ^ 23 ≤ y → difference_word x (y * int_quotient_word x y % 2 ^ 24) ≡ wrapped (int_rem (signed_of x) (signed_of y))
    high_high a b =
        let p : Parts (2 ^ 24 - x) (2 ^ 24 - y) = parts (2 ^ 24 - x) (2 ^ 24 - y) in
        let quotient : int_quotient_word x y ≡ (2 ^ 24 - x) / (2 ^ 24 - y) % 2 ^ 24 = ap₂ (λ s t. wrapped (int_div s t)) (high_is x a sx) (high_is y b sy) ∙ high_by_high (2 ^ 24 - x) (2 ^ 24 - y) in
        let left : wrapped (int_rem (signed_of x) (signed_of y)) ≡ difference_word 0 ((2 ^ 24 - x) % (2 ^ 24 - y)) = ap₂ (λ s t. wrapped (int_rem s t)) (high_is x a sx) (high_is y b sy) ∙ high_rem_high (2 ^ 24 - x) (2 ^ 24 - y) (omega (arith, a)) in
        let times : y * ((2 ^ 24 - x) / (2 ^ 24 - y)) % 2 ^ 24 ≡ difference_word 0 ((2 ^ 24 - y) * ((2 ^ 24 - x) / (2 ^ 24 - y))) = ap (λ z. z % 2 ^ 24) (mul_comm y ((2 ^ 24 - x) / (2 ^ 24 - y))) ∙ (turned ((2 ^ 24 - x) / (2 ^ 24 - y)) y (2 ^ 24 - y) (omega (arith, sy)) (omega (arith, p.sum, a, mul_comm ((2 ^ 24 - x) / (2 ^ 24 - y)) (2 ^ 24 - y))) ∙ ap (difference_word 0) (mul_comm ((2 ^ 24 - x) / (2 ^ 24 - y)) (2 ^ 24 - y))) in
        ap (λ z. difference_word x (y * z % 2 ^ 24)) (quotient ∙ omega (arith, p.few, a)) ∙ (ap (difference_word x) times ∙ (omega (arith, p.sum, sx, a) ∙ sym left))

pub wrapped_small : (z : ℤ) → wrapped z < 2 ^ 24
wrapped_small (pos m) = omega arith
wrapped_small (negsuc m) = omega arith
