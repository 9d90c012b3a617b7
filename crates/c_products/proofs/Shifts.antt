-- The helper functions of shifts compute them.
use Rattle.std.proofs.Common.{◌≡◌, ℕ, suc, ◌+◌, ◌-◌, ◌*◌, ◌/◌, ◌%◌, ◌^◌, ◌<◌, ◌≤◌, List, [], ◌∷◌, Some, Bool, true, false, refl, sym, ap, ◌∙◌, arith, pow-suc}
use Rattle.std.specs.Prelude.{◌-ℤ◌}
use Rattle.std.proofs.lemmas.Bool.{le-leb, ne_eqb}
use Rattle.std.proofs.lemmas.Nat.{mul-mod_first}
use Rattle.word24.specs.Word.{signed_of}
use Rattle.c_syntax.specs.Words.{meaning}
use Rattle.c_types.specs.Types as type
use Rattle.c_types.specs.Types.{Tags}
use Rattle.c_types.specs.Constants.{wrapped}
use Rattle.c_types.specs.Scope as entity
use Rattle.c_types.specs.Scope.{Scope, Names}
use Rattle.c_eval.specs.State.{Word, Object, State}
use Rattle.c_eval.specs.Run.{unless, give}
use Rattle.c_eval.specs.Operators.{used, of_word, word_result, on_words, sum, difference, operated}
use Rattle.c_eval.specs.Environment.{Environment}
use Rattle.c_eval.specs.Eval.{Flow, Next}
use Rattle.c_helpers.specs.Terms.{variable}
use Rattle.c_helpers.specs.Functions.{a, n, shift_turn, shift_left, unsigned_shift_right, unsigned_quotient}
use Rattle.c_apart.proofs.Apart.{Done, Part, nobody, p_computed, p_after, p_bind, p_give, p_stuck, p_choose, p_given, p_outer, p_named, p_read, p_load, p_put, p_write, p_store, p_own_value, p_assigned, p_variable, p_used, p_unary, p_compared, p_operated, p_combined, p_cast, p_assignment, p_call, p_condition, p_first, p_go_on, p_within, p_enter, p_leave, p_returned, p_value, p_does, p_result, p_function}
use Rattle.c_apart.proofs.Turns.{Turned, LoopEnded, loop_ends}
use Rattle.c_apart.proofs.Words.{int_sum}
use Rattle.c_products.specs.Found.{binary_entity}
use Rattle.c_products.proofs.Product.{holding, int_add, less_one}
use Rattle.c_products.proofs.Nested.{p_on_words}
use Rattle.c_products.proofs.Remainder.{p_two}
use Rattle.c_products.specs.BitsLaws.{shift_definition}

abbrev frame : Bool → ℕ → ℕ → List Object
frame live x k = holding live x ∷ holding live k ∷ []

abbrev here : Tags → Names → List (List ℕ) → Environment
here tags names defined = record {
  scope = record { tags = tags; block = []; outer = (n, entity.Object type.Int) ∷ (a, entity.Object type.Int) ∷ names; defined = defined };
  objects = (a, Some 0) ∷ (n, Some 1) ∷ [];
  next = 2;
  literals_before = 0;
}

turn_runs : (tags : Tags) (names : Names) (defined : List (List ℕ)) (deep : ℕ) (st : State) (x k : ℕ) → p_does shift_turn deep nobody (here tags names defined) st (frame true x k) ≡ Done Next st (frame true (int_add x x) (wrapped (signed_of k -ℤ signed_of 1)))
unfolding p_after p_bind p_give p_stuck p_choose p_given p_outer p_named p_read p_load p_put p_write p_store p_own_value p_assigned p_variable p_used p_unary p_compared p_operated p_combined p_cast p_assignment p_condition p_first p_go_on p_within p_enter p_leave p_returned used give unless of_word word_result on_words sum difference operated
turn_runs tags names defined deep st x k = refl

record Inv (st0 : State) (spare all k : ℕ) (st : State) (own : List Object) : Type 0 where
  few : k < 24
  x : ℕ
  state : st ≡ record st0 { spare = k + spare }
  objects : own ≡ frame true x k
  small : x < 2 ^ 24
  power : x * 2 ^ k % 2 ^ 24 ≡ all

module _ (tags : Tags) (names : Names) (defined : List (List ℕ)) (deep : ℕ) (st0 : State) (spare all : ℕ) where
  abbrev test : Part Bool
  test = p_condition (p_value (variable n) nobody (here tags names defined))

  abbrev body : Part Flow
  body = p_does shift_turn deep nobody (here tags names defined)

  goes : (st : State) (own : List Object) (k x : ℕ) → own ≡ frame true x (suc k) → test st own ≡ Done true st own
  unfolding p_after p_bind p_give p_choose p_given p_outer p_named p_read p_load p_own_value p_variable p_used p_condition used give
  goes st own k x e = rw (e, ne_eqb (suc k) 0 (λ v. absurd (omega (arith, v)))) refl

  stays : (st : State) (own : List Object) (x : ℕ) → own ≡ frame true x 0 → test st own ≡ Done false st own
  unfolding p_after p_bind p_give p_choose p_given p_outer p_named p_read p_load p_own_value p_variable p_used p_condition used give
  stays st own x e = rw e refl

  step : (k : ℕ) (st : State) (own : List Object) → Inv st0 spare all (suc k) st own → Turned test body (Inv st0 spare all k) st own
  step k st own v = record {
    goes = goes st own k v.x v.objects;
    spare = k + spare;
    pays = ap (λ (s : State). s.spare) v.state ∙ omega arith;
    state = record st { spare = k + spare };
    objects = frame true ((v.x + v.x) % 2 ^ 24) k;
    turns = ap (body (record st { spare = k + spare })) v.objects ∙ (turn_runs tags names defined deep (record st { spare = k + spare }) v.x (suc k) ∙ λ i. Done Next (record st { spare = k + spare }) (frame true (doubled i) (less_one k (omega (arith, v.few)) i)));
    next = record { few = omega (arith, v.few); x = (v.x + v.x) % 2 ^ 24; state = ap (λ (s : State). record s { spare = k + spare }) v.state; objects = refl; small = omega arith; power = power };
  }
    where
      doubled : int_add v.x v.x ≡ (v.x + v.x) % 2 ^ 24
      doubled = int_sum v.x v.x v.small v.small

      more : 2 ^ suc k ≡ 2 * 2 ^ k
      more = omega (arith, pow-suc 2 k)

      twice : (x p : ℕ) → (x + x) * p ≡ x * (2 * p)
      twice x p = omega arith

      power : (v.x + v.x) % 2 ^ 24 * 2 ^ k % 2 ^ 24 ≡ all
      power = mul-mod_first (v.x + v.x) (2 ^ k) (2 ^ 24) ∙ (ap (λ z. z % 2 ^ 24) (twice v.x (2 ^ k) ∙ ap (λ z. v.x * z) (sym more)) ∙ v.power)

  done : (st : State) (own : List Object) → Inv st0 spare all 0 st own → test st own ≡ Done false st own
  done st own v = stays st own v.x v.objects

  loop_runs : (d y x : ℕ) (own : List Object) (st : State) → y < d → y < 24 → x < 2 ^ 24 → x * 2 ^ y % 2 ^ 24 ≡ all → st ≡ record st0 { spare = y + spare } → own ≡ frame true x y → LoopEnded d test body (Inv st0 spare all 0) st own
  loop_runs d y x own st lt few sx e se oe = loop_ends test body (Inv st0 spare all) step done y d st own lt (record { few = few; x = x; state = se; objects = oe; small = sx; power = e })

  last : (st : State) (own : List Object) → Inv st0 spare all 0 st own → Done Next st own ≡ Done Next (record st0 { spare = spare }) (frame true all 0)
  last st own v = λ i. Done Next ((v.state ∙ ap (λ z. record st0 { spare = z }) none_left) i) ((v.objects ∙ ap (λ z. frame true z 0) whole) i)
    where
      none_left : 0 + spare ≡ spare
      none_left = omega arith

      whole : v.x ≡ all
      whole = omega (arith, v.small, v.power)

-- the whole function, from a word and a count, with as many units
pub left_runs : (tags : Tags) (names : Names) (defined : List (List ℕ)) (deep spare x y : ℕ) (st : State) → y < deep → x < 2 ^ 24 → y < 24
    → (own : List Object) × (p_function (shift_definition type.Int shift_left tags names defined) deep nobody (Word x ∷ Word y ∷ []) (record st { spare = y + spare }) [] ≡ Done (Word (x * 2 ^ y % 2 ^ 24)) (record st { spare = spare }) own)
unfolding p_after p_bind p_give p_stuck p_choose p_given p_outer p_named p_read p_load p_put p_write p_store p_own_value p_assigned p_variable p_used p_condition p_first p_go_on p_within p_enter p_leave p_returned p_result p_function used give
left_runs tags names defined deep spare x y st lt sx few =
    let l = loop_runs tags names defined deep st spare (x * 2 ^ y % 2 ^ 24) deep y x (frame true x y) (record st { spare = y + spare }) lt few sx refl refl refl in
    (frame false (x * 2 ^ y % 2 ^ 24) 0, rw (l.ends ∙ last tags names defined deep st spare (x * 2 ^ y % 2 ^ 24) l.state l.objects l.last) refl)

-- the quotient by a power
pub right_runs : (tags : Tags) (names : Names) (defined : List (List ℕ)) (deep x y words : ℕ) (ok ok' : ℕ → ℕ → Bool) (cost cost' : ℕ → ℕ → ℕ) (st : State) (f g : Bool)
    → meaning names shift_left.name ≡ Some (binary_entity type.Int f) → meaning names unsigned_quotient.name ≡ Some (binary_entity type.Unsigned g)
    → ok 1 y ≡ true → ok' x (1 * 2 ^ y % 2 ^ 24) ≡ true → suc (cost 1 y) ≤ st.spare → suc (cost' x (1 * 2 ^ y % 2 ^ 24)) ≤ st.spare - suc (cost 1 y) → st.words + words ≤ 1024
    → p_function (shift_definition type.Unsigned unsigned_shift_right tags names defined) deep (p_two shift_left.name (p_on_words ok cost words (λ x y. x * 2 ^ y % 2 ^ 24)) unsigned_quotient.name (p_on_words ok' cost' words (λ x y. x / y))) (Word x ∷ Word y ∷ []) st []
    ≡ Done (Word (x / (1 * 2 ^ y % 2 ^ 24))) (record st { spare = st.spare - suc (cost 1 y) - suc (cost' x (1 * 2 ^ y % 2 ^ 24)) }) (holding false x ∷ holding false y ∷ holding false (1 * 2 ^ y % 2 ^ 24) ∷ [])
unfolding p_two p_on_words p_computed p_after p_bind p_give p_stuck p_choose p_given p_outer p_named p_read p_load p_put p_write p_store p_own_value p_assigned p_variable p_used p_assignment p_call p_first p_go_on p_within p_enter p_leave p_returned p_result p_function used give
right_runs tags names defined deep x y words ok ok' cost cost' st f g e e' o o' le le' small =
    rw (e, o, le-leb (suc (cost 1 y)) st.spare le, le-leb (st.words + words) 1024 small, e', o', le-leb (suc (cost' x (1 * 2 ^ y % 2 ^ 24))) (st.spare - suc (cost 1 y)) le', le-leb (st.words + words) 1024 small) refl
