-- The helper functions of shifts of ints to the right and of `~` compute them.
use Rattle.std.proofs.Common.{◌≡◌, ℕ, suc, ◌+◌, ◌-◌, ◌/◌, ◌^◌, ◌<◌, ◌≤◌, List, [], ◌∷◌, Some, Bool, true, false, refl, arith}
use Rattle.std.specs.Prelude.{pos, ◌-ℤ◌, int_lt}
use Rattle.std.specs.Int.{int_div_euclid}
use Rattle.std.proofs.lemmas.Bool.{le-leb}
use Rattle.word24.specs.Word.{signed_of}
use Rattle.c_syntax.specs.Words.{meaning}
use Rattle.c_types.specs.Types as type
use Rattle.c_types.specs.Types.{Tags}
use Rattle.c_types.specs.Constants.{wrapped}
use Rattle.c_types.specs.Scope.{Names}
use Rattle.c_eval.specs.State.{Word, State}
use Rattle.c_eval.specs.Run.{unless, give}
use Rattle.c_eval.specs.Operators.{used, of_word, word_result, on_words, on_word, sum, difference, order, operated}
use Rattle.c_helpers.specs.Functions.{unsigned_shift_right, int_shift_right}
use Rattle.c_apart.proofs.Apart.{Done, nobody, p_computed, p_after, p_bind, p_give, p_stuck, p_choose, p_given, p_outer, p_named, p_read, p_load, p_put, p_write, p_store, p_own_value, p_assigned, p_variable, p_used, p_unary, p_compared, p_operated, p_combined, p_cast, p_assignment, p_call, p_condition, p_first, p_go_on, p_within, p_enter, p_leave, p_returned, p_result, p_function}
use Rattle.c_products.proofs.Product.{holding}
use Rattle.c_products.proofs.Nested.{p_on_words}
use Rattle.c_products.proofs.IntQuotient.{p_one}
use Rattle.c_products.specs.BitsLaws.{shift_definition, shift_entity, complement_definition}

-- all bits turned
abbrev pub turned : ℕ → ℕ
turned x = wrapped (signed_of 16777215 -ℤ signed_of x)

pub high_runs : (tags : Tags) (names : Names) (defined : List (List ℕ)) (deep x y words : ℕ) (ok : ℕ → ℕ → Bool) (cost : ℕ → ℕ → ℕ) (st : State) (f : Bool)
    → int_lt (signed_of x) (signed_of 0) ≡ true → meaning names unsigned_shift_right.name ≡ Some (shift_entity type.Unsigned f)
    → ok (turned x) y ≡ true → suc (cost (turned x) y) ≤ st.spare → st.words + words ≤ 1024
    → p_function (shift_definition type.Int int_shift_right tags names defined) deep (p_one unsigned_shift_right.name (p_on_words ok cost words (λ x y. x / 2 ^ y))) (Word x ∷ Word y ∷ []) st []
    ≡ Done (Word (turned (turned x / 2 ^ y))) (record st { spare = st.spare - suc (cost (turned x) y) }) (holding false x ∷ holding false y ∷ holding false (turned x / 2 ^ y) ∷ [])
unfolding p_one p_on_words p_computed p_after p_bind p_give p_stuck p_choose p_given p_outer p_named p_read p_load p_put p_write p_store p_own_value p_assigned p_variable p_used p_unary p_compared p_operated p_combined p_cast p_assignment p_call p_condition p_first p_go_on p_within p_enter p_leave p_returned p_result p_function used give unless of_word word_result on_words on_word sum difference order operated
high_runs tags names defined deep x y words ok cost st f et e o le small = rw (et, e, o, le-leb (suc (cost (turned x) y)) st.spare le, le-leb (st.words + words) 1024 small) refl

pub low_runs : (tags : Tags) (names : Names) (defined : List (List ℕ)) (deep x y words : ℕ) (ok : ℕ → ℕ → Bool) (cost : ℕ → ℕ → ℕ) (st : State) (f : Bool)
    → int_lt (signed_of x) (signed_of 0) ≡ false → meaning names unsigned_shift_right.name ≡ Some (shift_entity type.Unsigned f)
    → ok x y ≡ true → suc (cost x y) ≤ st.spare → st.words + words ≤ 1024
    → p_function (shift_definition type.Int int_shift_right tags names defined) deep (p_one unsigned_shift_right.name (p_on_words ok cost words (λ x y. x / 2 ^ y))) (Word x ∷ Word y ∷ []) st []
    ≡ Done (Word (x / 2 ^ y)) (record st { spare = st.spare - suc (cost x y) }) (holding false x ∷ holding false y ∷ [])
unfolding p_one p_on_words p_computed p_after p_bind p_give p_stuck p_choose p_given p_outer p_named p_read p_load p_put p_write p_store p_own_value p_assigned p_variable p_used p_unary p_compared p_operated p_combined p_cast p_assignment p_call p_condition p_first p_go_on p_within p_enter p_leave p_returned p_result p_function used give unless of_word word_result on_words on_word sum difference order operated
low_runs tags names defined deep x y words ok cost st f et e o le small = rw (et, e, o, le-leb (suc (cost x y)) st.spare le, le-leb (st.words + words) 1024 small) refl

pub complement_runs : (tags : Tags) (names : Names) (defined : List (List ℕ)) (deep x : ℕ) (st : State)
    → p_function (complement_definition tags names defined) deep nobody (Word x ∷ []) st [] ≡ Done (Word (turned x)) st (holding false x ∷ [])
unfolding p_after p_bind p_give p_stuck p_choose p_given p_outer p_named p_read p_load p_put p_write p_store p_own_value p_assigned p_variable p_used p_unary p_compared p_operated p_combined p_cast p_assignment p_condition p_first p_go_on p_within p_enter p_leave p_returned p_result p_function used give unless of_word word_result on_words on_word sum difference order operated
complement_runs tags names defined deep x st = refl

-- ---- values

pub turned_is : (x : ℕ) → x < 2 ^ 24 → turned x ≡ 2 ^ 24 - 1 - x
turned_is x a = grind (arith, a)

pub high_value : (x p : ℕ) → 2 ^ 23 ≤ x → x < 2 ^ 24 → 0 < p → wrapped (int_div_euclid (signed_of x) (pos p)) ≡ 2 ^ 24 - 1 - (2 ^ 24 - 1 - x) / p
high_value x p a b c = grind (arith, a, b, c)

pub low_value : (x p : ℕ) → x < 2 ^ 23 → wrapped (int_div_euclid (signed_of x) (pos p)) ≡ x / p
low_value x p a = grind (arith, a)
