-- The helper functions of what is left compute it.
use Rattle.std.proofs.Common.{◌≡◌, ℕ, suc, ◌+◌, ◌-◌, ◌*◌, ◌/◌, ◌%◌, ◌^◌, ◌≤◌, List, [], ◌∷◌, Some, Bool, true, false, refl, sym, subst}
use Rattle.std.specs.Prelude.{if◌then◌else◌, pos, ◌-ℤ◌}
use Rattle.std.specs.Str.{bytes_eq}
use Rattle.std.proofs.lemmas.Bool.{le-leb}
use Rattle.std.proofs.lemmas.Slice.Eq.{bytes_eq-Decides}
use Rattle.c_syntax.specs.Words.{meaning}
use Rattle.c_types.specs.Types as type
use Rattle.c_types.specs.Types.{CType, Tags, types}
use Rattle.c_types.specs.Constants.{wrapped}
use Rattle.c_types.specs.Scope.{Names}
use Rattle.c_eval.specs.State.{Value, Word, State, Run}
use Rattle.c_eval.specs.Run.{unless, give}
use Rattle.c_eval.specs.Operators.{used, of_word, word_result, on_words, sum, difference, operated}
use Rattle.c_helpers.specs.Functions.{product, unsigned_quotient, unsigned_remainder}
use Rattle.c_apart.proofs.Apart.{Done, Part, p_computed, p_after, p_bind, p_give, p_stuck, p_choose, p_given, p_outer, p_named, p_read, p_load, p_put, p_write, p_store, p_own_value, p_assigned, p_variable, p_used, p_unary, p_compared, p_operated, p_combined, p_cast, p_assignment, p_call, p_condition, p_first, p_go_on, p_within, p_enter, p_leave, p_returned, p_result, p_function}
use Rattle.c_apart.proofs.Splitting.{Split, itself, stuck_splits}
use Rattle.c_products.specs.Found.{binary_definition, binary_entity}
use Rattle.c_products.proofs.Product.{holding}
use Rattle.c_products.proofs.Nested.{p_on_words}

-- two functions on words are called by their names
unfoldable pub p_two : List ℕ → (List Value → Part Value) → List ℕ → (List Value → Part Value) → List ℕ → List Value → Part Value
p_two f m g m' name vs = if bytes_eq name f then m vs else if bytes_eq name g then m' vs else p_stuck

pub two_nested : (n : ℕ) (f g : List ℕ) (m m' : List Value → Part Value) (calls : List ℕ → List Value → Run Value) → ((vs : List Value) → Split n itself (m vs) (calls f vs)) → ((vs : List Value) → Split n itself (m' vs) (calls g vs)) → (name : List ℕ) (vs : List Value) → Split n itself (p_two f m g m' name vs) (calls name vs)
unfolding p_two
two_nested n f g m m' calls h k name vs = first (bytes_eq name f) refl
  where
    second : (u : Bool) → bytes_eq name g ≡ u → Split n itself (if u then m' vs else p_stuck) (calls name vs)
    second true e = subst (λ z. Split n itself (m' vs) (calls z vs)) (sym ((bytes_eq-Decides name g).0 e)) (k vs)
    second false e = stuck_splits

    first : (u : Bool) → bytes_eq name f ≡ u → Split n itself (if u then m vs else (if bytes_eq name g then m' vs else p_stuck)) (calls name vs)
    first true e = subst (λ z. Split n itself (m vs) (calls z vs)) (sym ((bytes_eq-Decides name f).0 e)) (h vs)
    first false e = second (bytes_eq name g) refl

-- what has been computed, with so many units and words
pub remainder_runs : (tags : Tags) (names : Names) (defined : List (List ℕ)) (deep x y words : ℕ) (ok ok' : ℕ → ℕ → Bool) (cost : ℕ → ℕ → ℕ) (st : State) (f g : Bool)
    → meaning names unsigned_quotient.name ≡ Some (binary_entity type.Unsigned f) → meaning names product.name ≡ Some (binary_entity type.Int g)
    → ok x y ≡ true → ok' y (x / y) ≡ true → suc (cost x y) ≤ st.spare → 25 ≤ st.spare - suc (cost x y) → st.words + words ≤ 1024
    → p_function (binary_definition type.Unsigned unsigned_remainder tags names defined) deep (p_two unsigned_quotient.name (p_on_words ok cost words (λ x y. x / y)) product.name (p_on_words ok' (λ x y. 24) words (λ x y. x * y % 2 ^ 24))) (Word x ∷ Word y ∷ []) st []
    ≡ Done (Word (wrapped (pos x -ℤ pos (y * (x / y) % 2 ^ 24)))) (record st { spare = st.spare - suc (cost x y) - 25 }) (holding false x ∷ holding false y ∷ holding false (x / y) ∷ holding false (y * (x / y) % 2 ^ 24) ∷ [])
unfolding p_two p_on_words p_computed p_after p_bind p_give p_stuck p_choose p_given p_outer p_named p_read p_load p_put p_write p_store p_own_value p_assigned p_variable p_used p_unary p_compared p_operated p_combined p_cast p_assignment p_call p_condition p_first p_go_on p_within p_enter p_leave p_returned p_result p_function used give unless of_word word_result on_words sum difference operated
remainder_runs tags names defined deep x y words ok ok' cost st f g e e' o o' le le' small = rw (e, o, le-leb (suc (cost x y)) st.spare le, le-leb (st.words + words) 1024 small, e', o', le-leb 25 (st.spare - suc (cost x y)) le', le-leb (st.words + words) 1024 small) refl
