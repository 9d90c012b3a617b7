-- A pointer is moved by a number of elements.
use Rattle.std.proofs.Common.{◌≡◌, ℕ, ◌+◌, ◌-◌, ◌*◌, ◌%◌, ◌^◌, ◌≤◌, List, [], ◌∷◌, Option, Some, Bool, true, false, refl}
use Rattle.std.specs.Prelude.{unsigned_abs}
use Rattle.std.proofs.lemmas.Bool.{le-leb}
use Rattle.c_syntax.specs.Words.{meaning}
use Rattle.c_types.specs.Types as type
use Rattle.c_types.specs.Types.{CType, Tags, types}
use Rattle.c_types.specs.Scope.{Names}
use Rattle.c_eval.specs.State.{Value, Word, Point, Letter, Holds, Object, State}
use Rattle.c_eval.specs.Run.{unless, give, ◌>>=◌, after, objects_now}
use Rattle.c_eval.specs.Memory.{is_within, offset_by, extent_of, moved}
use Rattle.c_eval.specs.Operators.{used, of_word, sum, operated, pointer_sum}
use Rattle.c_helpers.specs.Functions.{product}
use Rattle.c_apart.proofs.Apart.{Done, Part, p_computed, p_after, p_bind, p_give, p_stuck, p_choose, p_given, p_outer, p_named, p_read, p_load, p_put, p_write, p_store, p_own_value, p_assigned, p_variable, p_used, p_operated, p_combined, p_cast, p_assignment, p_call, p_go_on, p_within, p_enter, p_leave, p_returned, p_result, p_function}
use Rattle.c_products.specs.Found.{binary_entity}
use Rattle.c_products.proofs.Nested.{p_on_words}
use Rattle.c_products.proofs.IntQuotient.{p_one}
use Rattle.c_products.proofs.Cells.{cells_of}
use Rattle.c_products.specs.MovesFound.{definition, sum_function, sum_parameters}

-- an object of one cell, whose block was left
abbrev pub gone : Value → Object
gone v = record { live = false; cells = Holds v ∷ [] }

abbrev pub product_part : (ok : ℕ → ℕ → Bool) → List ℕ → List Value → Part Value
product_part ok = p_one product.name (p_on_words ok (λ x y. 24) 16 (λ x y. x * y % 2 ^ 24))

pub point_runs : (unsigned : Bool) (tags : Tags) (names : Names) (defined : List (List ℕ)) (deep o i x k : ℕ) (ok : ℕ → ℕ → Bool) (st : State) (begun : Bool)
    → meaning names product.name ≡ Some (binary_entity type.Int begun)
    → ok x k ≡ true → 25 ≤ st.spare → st.words + 16 ≤ 1024 → is_within (offset_by (Point o i) (cells_of x k)) (extent_of st.objects (Point o i)) ≡ true
    → p_function (definition (type.Pointer type.Void) (sum_parameters unsigned) (sum_function unsigned) tags names defined) deep (product_part ok) (Point o i ∷ Word x ∷ Word k ∷ []) st []
    ≡ Done (Point o (unsigned_abs (offset_by (Point o i) (cells_of x k)))) (record st { spare = st.spare - 25 }) (gone (Point o i) ∷ gone (Word x) ∷ gone (Word k) ∷ gone (Word (x * k % 2 ^ 24)) ∷ [])
unfolding p_one p_on_words p_computed p_after p_bind p_give p_stuck p_choose p_given p_outer p_named p_read p_load p_put p_write p_store p_own_value p_assigned p_variable p_used p_operated p_combined p_cast p_assignment p_call p_go_on p_within p_enter p_leave p_returned p_result p_function used give unless of_word sum operated pointer_sum moved objects_now ◌>>=◌ after
point_runs false tags names defined deep o i x k ok st begun e good le small inside = rw (e, good, le-leb 25 st.spare le, le-leb (st.words + 16) 1024 small, inside) refl
point_runs true tags names defined deep o i x k ok st begun e good le small inside = rw (e, good, le-leb 25 st.spare le, le-leb (st.words + 16) 1024 small, inside) refl

pub letter_runs : (unsigned : Bool) (tags : Tags) (names : Names) (defined : List (List ℕ)) (deep : ℕ) (f : Option (List ℕ)) (j : ℕ) (text : List ℕ) (i x k : ℕ) (ok : ℕ → ℕ → Bool) (st : State) (begun : Bool)
    → meaning names product.name ≡ Some (binary_entity type.Int begun)
    → ok x k ≡ true → 25 ≤ st.spare → st.words + 16 ≤ 1024 → is_within (offset_by (Letter f j text i) (cells_of x k)) (extent_of st.objects (Letter f j text i)) ≡ true
    → p_function (definition (type.Pointer type.Void) (sum_parameters unsigned) (sum_function unsigned) tags names defined) deep (product_part ok) (Letter f j text i ∷ Word x ∷ Word k ∷ []) st []
    ≡ Done (Letter f j text (unsigned_abs (offset_by (Letter f j text i) (cells_of x k)))) (record st { spare = st.spare - 25 }) (gone (Letter f j text i) ∷ gone (Word x) ∷ gone (Word k) ∷ gone (Word (x * k % 2 ^ 24)) ∷ [])
unfolding p_one p_on_words p_computed p_after p_bind p_give p_stuck p_choose p_given p_outer p_named p_read p_load p_put p_write p_store p_own_value p_assigned p_variable p_used p_operated p_combined p_cast p_assignment p_call p_go_on p_within p_enter p_leave p_returned p_result p_function used give unless of_word sum operated pointer_sum moved objects_now ◌>>=◌ after
letter_runs false tags names defined deep f j text i x k ok st begun e good le small inside = rw (e, good, le-leb 25 st.spare le, le-leb (st.words + 16) 1024 small, inside) refl
letter_runs true tags names defined deep f j text i x k ok st begun e good le small inside = rw (e, good, le-leb 25 st.spare le, le-leb (st.words + 16) 1024 small, inside) refl
