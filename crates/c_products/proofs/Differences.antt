-- The function of differences gives how many elements lie between two pointers.
use Rattle.std.proofs.Common.{◌≡◌, ℕ, suc, ◌+◌, ◌-◌, ◌≤◌, List, [], ◌∷◌, Option, Some, Bool, true, refl, ap, arith}
use Rattle.std.specs.Prelude.{ℤ, pos, ◌-ℤ◌, int_div, int_rem, unsigned_abs, ◌==◌, ◌&&◌}
use Rattle.std.proofs.lemmas.Bool.{le-leb}
use Rattle.c_syntax.specs.Words.{meaning}
use Rattle.c_types.specs.Types as type
use Rattle.c_types.specs.Types.{CType, Tags, types}
use Rattle.c_types.specs.Constants.{wrapped}
use Rattle.c_types.specs.Scope.{Names}
use Rattle.c_eval.specs.State.{Word, Point, Letter, State}
use Rattle.c_eval.specs.Run.{unless, give, ◌>>=◌, after}
use Rattle.c_eval.specs.Memory.{same_owner, pointer_difference as difference_of}
use Rattle.c_eval.specs.Operators.{used, difference, operated}
use Rattle.c_helpers.specs.Functions.{int_quotient, pointer_difference}
use Rattle.c_apart.proofs.Apart.{Done, p_computed, p_after, p_bind, p_give, p_stuck, p_choose, p_given, p_outer, p_named, p_read, p_load, p_put, p_write, p_store, p_own_value, p_assigned, p_variable, p_used, p_operated, p_combined, p_cast, p_call, p_first, p_go_on, p_within, p_enter, p_leave, p_returned, p_result, p_function}
use Rattle.c_products.specs.Found.{binary_entity}
use Rattle.c_products.proofs.Nested.{p_on_words}
use Rattle.c_products.proofs.IntQuotient.{p_one}
use Rattle.c_products.specs.MovesFound.{definition, difference_parameters}
use Rattle.c_products.proofs.Sums.{gone}

-- the cells between two offsets
abbrev pub cells_between : ℕ → ℕ → ℕ
cells_between i j = wrapped (int_div (pos i -ℤ pos j) (pos 1))

rest_of_one : (z : ℤ) → unsigned_abs (int_rem z (pos 1)) ≡ 0
rest_of_one z = grind arith

no_rest : (z : ℤ) → (unsigned_abs (int_rem z (pos 1)) == 0) ≡ true
no_rest z = ap (λ n. n == 0) (rest_of_one z)

pub points_run : (tags : Tags) (names : Names) (defined : List (List ℕ)) (deep o i u j k words : ℕ) (ok : ℕ → ℕ → Bool) (cost : ℕ → ℕ → ℕ) (f : ℕ → ℕ → ℕ) (st : State) (begun : Bool)
    → meaning names int_quotient.name ≡ Some (binary_entity type.Int begun) → (o == u) ≡ true → ok (cells_between i j) k ≡ true → suc (cost (cells_between i j) k) ≤ st.spare → st.words + words ≤ 1024
    → p_function (definition type.Int difference_parameters pointer_difference tags names defined) deep (p_one int_quotient.name (p_on_words ok cost words f)) (Point o i ∷ Point u j ∷ Word k ∷ []) st []
    ≡ Done (Word (f (cells_between i j) k)) (record st { spare = st.spare - suc (cost (cells_between i j) k) }) (gone (Point o i) ∷ gone (Point u j) ∷ gone (Word k) ∷ gone (Word (cells_between i j)) ∷ [])
unfolding p_one p_on_words p_computed p_after p_bind p_give p_stuck p_choose p_given p_outer p_named p_read p_load p_put p_write p_store p_own_value p_assigned p_variable p_used p_operated p_combined p_cast p_call p_first p_go_on p_within p_enter p_leave p_returned p_result p_function used give unless difference operated difference_of ◌>>=◌ after
points_run tags names defined deep o i u j k words ok cost f st begun e same good le small =
    rw (same, no_rest (pos i -ℤ pos j), e, good, le-leb (suc (cost (cells_between i j) k)) st.spare le, le-leb (st.words + words) 1024 small) refl

pub letters_run : (tags : Tags) (names : Names) (defined : List (List ℕ)) (deep : ℕ) (a : Option (List ℕ)) (m : ℕ) (text : List ℕ) (i : ℕ) (b : Option (List ℕ)) (n : ℕ) (other : List ℕ) (j k words : ℕ) (ok : ℕ → ℕ → Bool) (cost : ℕ → ℕ → ℕ) (f : ℕ → ℕ → ℕ) (st : State) (begun : Bool)
    → meaning names int_quotient.name ≡ Some (binary_entity type.Int begun) → (same_owner a b && m == n) ≡ true → ok (cells_between i j) k ≡ true → suc (cost (cells_between i j) k) ≤ st.spare → st.words + words ≤ 1024
    → p_function (definition type.Int difference_parameters pointer_difference tags names defined) deep (p_one int_quotient.name (p_on_words ok cost words f)) (Letter a m text i ∷ Letter b n other j ∷ Word k ∷ []) st []
    ≡ Done (Word (f (cells_between i j) k)) (record st { spare = st.spare - suc (cost (cells_between i j) k) }) (gone (Letter a m text i) ∷ gone (Letter b n other j) ∷ gone (Word k) ∷ gone (Word (cells_between i j)) ∷ [])
unfolding p_one p_on_words p_computed p_after p_bind p_give p_stuck p_choose p_given p_outer p_named p_read p_load p_put p_write p_store p_own_value p_assigned p_variable p_used p_operated p_combined p_cast p_call p_first p_go_on p_within p_enter p_leave p_returned p_result p_function used give unless difference operated difference_of ◌>>=◌ after
letters_run tags names defined deep a m text i b n other j k words ok cost f st begun e same good le small =
    rw (same, no_rest (pos i -ℤ pos j), e, good, le-leb (suc (cost (cells_between i j) k)) st.spare le, le-leb (st.words + words) 1024 small) refl
