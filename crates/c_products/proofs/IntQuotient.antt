-- The helper function of quotients of ints computes the quotient.
use Rattle.std.proofs.Common.{◌≡◌, ℕ, suc, ◌+◌, ◌-◌, ◌/◌, ◌%◌, ◌^◌, ◌<◌, ◌≤◌, List, [], ◌∷◌, Some, Bool, true, false, cond, nat_le, refl, sym, ap, ap₂, ◌∙◌, subst, arith}
use Rattle.std.specs.Prelude.{if◌then◌else◌, pos, neg_ℤ, int_lt, int_div}
use Rattle.std.specs.Str.{bytes_eq}
use Rattle.std.proofs.lemmas.Bool.{le-leb, leb-true, leb-false}
use Rattle.word24.specs.Word.{difference_word, signed_of}
use Rattle.c_syntax.specs.Words.{meaning}
use Rattle.c_types.specs.Types as type
use Rattle.c_types.specs.Types.{CType, Tags, types}
use Rattle.c_types.specs.Constants.{wrapped}
use Rattle.c_types.specs.Scope.{Names}
use Rattle.c_eval.specs.State.{Value, Word, State, Run}
use Rattle.c_eval.specs.Run.{unless, give}
use Rattle.c_eval.specs.Operators.{used, of_word, word_result, on_words, on_word, sum, difference, equality, order, operated}
use Rattle.c_helpers.specs.Functions.{a, b, unsigned_quotient, int_quotient}
use Rattle.c_apart.proofs.Apart.{Done, Part, p_computed, p_after, p_bind, p_give, p_stuck, p_choose, p_given, p_outer, p_named, p_read, p_load, p_put, p_write, p_store, p_own_value, p_assigned, p_variable, p_used, p_unary, p_compared, p_operated, p_combined, p_cast, p_assignment, p_call, p_condition, p_first, p_go_on, p_within, p_enter, p_leave, p_returned, p_result, p_function}
use Rattle.std.proofs.lemmas.Slice.Eq.{bytes_eq-Decides}
use Rattle.c_apart.proofs.Splitting.{Split, itself, stuck_splits}
use Rattle.c_apart.proofs.Words.{negated}
use Rattle.c_products.proofs.Product.{holding}
use Rattle.c_products.proofs.Nested.{p_on_words}
use Rattle.c_products.specs.Found.{binary_definition, binary_entity}
use Rattle.c_products.proofs.Arithmetic.{low_is, high_is, unsigned_quotient_is, low_by_high, high_by_low, high_by_high}

-- one function on words is called by its name
unfoldable pub p_one : List ℕ → (List Value → Part Value) → List ℕ → List Value → Part Value
p_one f m name vs = if bytes_eq name f then m vs else p_stuck

pub one_nested : (n : ℕ) (f : List ℕ) (m : List Value → Part Value) (calls : List ℕ → List Value → Run Value) → ((vs : List Value) → Split n itself (m vs) (calls f vs)) → (name : List ℕ) (vs : List Value) → Split n itself (p_one f m name vs) (calls name vs)
unfolding p_one
one_nested n f m calls h name vs = go (bytes_eq name f) refl
  where
    go : (u : Bool) → bytes_eq name f ≡ u → Split n itself (if u then m vs else p_stuck) (calls name vs)
    go true e = subst (λ z. Split n itself (m vs) (calls z vs)) (sym ((bytes_eq-Decides name f).0 e)) (h vs)
    go false e = stuck_splits

-- the number without its sign
abbrev pub size_by : Bool → ℕ → ℕ
size_by t x = cond t (wrapped (neg_ℤ (pos x))) x

-- the quotient of the sizes, with the sign that both give
abbrev pub signed_quotient : Bool → Bool → ℕ → ℕ
signed_quotient true true z = z
signed_quotient true false z = wrapped (neg_ℤ (pos z))
signed_quotient false true z = wrapped (neg_ℤ (pos z))
signed_quotient false false z = z

pub quotient_runs : (tags : Tags) (names : Names) (defined : List (List ℕ)) (deep x y words : ℕ) (ok : ℕ → ℕ → Bool) (cost : ℕ → ℕ → ℕ) (st : State) (f t u : Bool)
    → int_lt (signed_of x) (signed_of 0) ≡ t → int_lt (signed_of y) (signed_of 0) ≡ u
    → meaning names unsigned_quotient.name ≡ Some (binary_entity type.Unsigned f)
    → ok (size_by t x) (size_by u y) ≡ true → suc (cost (size_by t x) (size_by u y)) ≤ st.spare → st.words + words ≤ 1024
    → p_function (binary_definition type.Int int_quotient tags names defined) deep (p_one unsigned_quotient.name (p_on_words ok cost words (λ x y. x / y))) (Word x ∷ Word y ∷ []) st []
    ≡ Done (Word (signed_quotient t u (size_by t x / size_by u y))) (record st { spare = st.spare - suc (cost (size_by t x) (size_by u y)) }) (holding false x ∷ holding false y ∷ holding false (size_by t x) ∷ holding false (size_by u y) ∷ holding false (size_by t x / size_by u y) ∷ [])
unfolding p_one p_on_words p_computed p_after p_bind p_give p_stuck p_choose p_given p_outer p_named p_read p_load p_put p_write p_store p_own_value p_assigned p_variable p_used p_unary p_compared p_operated p_combined p_cast p_assignment p_call p_condition p_first p_go_on p_within p_enter p_leave p_returned p_result p_function used give unless of_word word_result on_words on_word sum difference equality order operated
quotient_runs tags names defined deep x y words ok cost st f true true et eu e o le small = rw (et, eu, e, o, le-leb (suc (cost (wrapped (neg_ℤ (pos x))) (wrapped (neg_ℤ (pos y))))) st.spare le, le-leb (st.words + words) 1024 small, et, eu) refl
quotient_runs tags names defined deep x y words ok cost st f true false et eu e o le small = rw (et, eu, e, o, le-leb (suc (cost (wrapped (neg_ℤ (pos x))) y)) st.spare le, le-leb (st.words + words) 1024 small, et, eu) refl
quotient_runs tags names defined deep x y words ok cost st f false true et eu e o le small = rw (et, eu, e, o, le-leb (suc (cost x (wrapped (neg_ℤ (pos y))))) st.spare le, le-leb (st.words + words) 1024 small, et, eu) refl
quotient_runs tags names defined deep x y words ok cost st f false false et eu e o le small = rw (et, eu, e, o, le-leb (suc (cost x y)) st.spare le, le-leb (st.words + words) 1024 small, et, eu) refl

-- ---- its value

small_quotient : (x y : ℕ) → x < 2 ^ 24 → x / y < 2 ^ 24
small_quotient x y a = grind (arith, a)

pub size_is : (x : ℕ) → 2 ^ 23 ≤ x → x < 2 ^ 24 → wrapped (neg_ℤ (pos x)) ≡ 2 ^ 24 - x
size_is x a b = negated x b ∙ omega (arith, a, b)

whole : (z : ℕ) → z < 2 ^ 24 → z % 2 ^ 24 ≡ z
whole z lt = omega (arith, lt)

pub value_is : (x y : ℕ) (t u : Bool) → x < 2 ^ 24 → y < 2 ^ 24 → nat_le (2 ^ 23) x ≡ t → nat_le (2 ^ 23) y ≡ u → signed_quotient t u (size_by t x / size_by u y) ≡ wrapped (int_div (signed_of x) (signed_of y))
value_is x y false false sx sy et eu = sym (ap₂ (λ p q. wrapped (int_div p q)) (low_is x (leb-false (2 ^ 23) x et)) (low_is y (leb-false (2 ^ 23) y eu)) ∙ unsigned_quotient_is x y sx)
value_is x y false true sx sy et eu =
    let high : 2 ^ 23 ≤ y = leb-true (2 ^ 23) y eu in
    ap (λ v. wrapped (neg_ℤ (pos (x / v)))) (size_is y high sy) ∙ (negated (x / (2 ^ 24 - y)) (small_quotient x (2 ^ 24 - y) sx)
    ∙ (ap (difference_word 0) (sym (whole (x / (2 ^ 24 - y)) (small_quotient x (2 ^ 24 - y) sx))) ∙ sym (ap₂ (λ p q. wrapped (int_div p q)) (low_is x (leb-false (2 ^ 23) x et)) (high_is y high sy) ∙ low_by_high x (2 ^ 24 - y))))
value_is x y true false sx sy et eu =
    let high : 2 ^ 23 ≤ x = leb-true (2 ^ 23) x et in
    let less : 2 ^ 24 - x < 2 ^ 24 = omega (arith, high) in
    ap (λ u. wrapped (neg_ℤ (pos (u / y)))) (size_is x high sx) ∙ (negated ((2 ^ 24 - x) / y) (small_quotient (2 ^ 24 - x) y less)
    ∙ (ap (difference_word 0) (sym (whole ((2 ^ 24 - x) / y) (small_quotient (2 ^ 24 - x) y less))) ∙ sym (ap₂ (λ p q. wrapped (int_div p q)) (high_is x high sx) (low_is y (leb-false (2 ^ 23) y eu)) ∙ high_by_low (2 ^ 24 - x) y)))
value_is x y true true sx sy et eu =
    let high : 2 ^ 23 ≤ x = leb-true (2 ^ 23) x et in
    let high' : 2 ^ 23 ≤ y = leb-true (2 ^ 23) y eu in
    let less : 2 ^ 24 - x < 2 ^ 24 = omega (arith, high) in
    ap₂ (λ u v. u / v) (size_is x high sx) (size_is y high' sy) ∙ (sym (whole ((2 ^ 24 - x) / (2 ^ 24 - y)) (small_quotient (2 ^ 24 - x) (2 ^ 24 - y) less)) ∙ sym (ap₂ (λ p q. wrapped (int_div p q)) (high_is x high sx) (high_is y high' sy) ∙ high_by_high (2 ^ 24 - x) (2 ^ 24 - y)))
