-- The function of one digit writes how often a number is in another, and gives what is left.
use Rattle.std.proofs.Common.{◌≡◌, ℕ, suc, ◌+◌, ◌-◌, ◌*◌, ◌/◌, ◌%◌, ◌^◌, ◌<◌, ◌≤◌, List, [], ◌∷◌, ◌++◌, Some, Bool, true, false, cond, nat_le, refl, sym, ap, ap₂, ◌∙◌, subst, arith, mul-le-mul_right}
use Rattle.std.specs.Prelude.{pos, ◌+ℤ◌, ◌-ℤ◌, int_lt, if◌then◌else◌}
use Rattle.std.specs.Fmt.{digit_glyph}
use Rattle.std.proofs.lemmas.Bool.{le-leb, lt-leb, lt-ltb, le-ltb}
use Rattle.std.proofs.lemmas.Nat.{div-add-mod'}
use Rattle.std.proofs.Math.Nat.{mod-lt}
use Rattle.word24.specs.Word.{signed_of}
use Rattle.c_types.specs.Types as type
use Rattle.c_types.specs.Types.{Tags}
use Rattle.c_types.specs.Constants.{wrapped}
use Rattle.c_types.specs.Scope as entity
use Rattle.c_types.specs.Scope.{Names, built_in}
use Rattle.c_eval.specs.State.{Word, Object, State}
use Rattle.c_eval.specs.Run.{unless, give, put}
use Rattle.c_eval.specs.Operators.{used, of_word, word_result, on_words, sum, difference, order, operated}
use Rattle.c_eval.specs.Environment.{Environment}
use Rattle.c_eval.specs.Eval.{Flow, Next}
use Rattle.c_helpers.specs.Terms.{variable, at_most, difference as less, set, block}
use Rattle.c_helpers.specs.Functions.{a, b, r, digit, raised}
use Rattle.c_apart.proofs.Apart.{Done, Part, nobody, p_after, p_bind, p_give, p_stuck, p_choose, p_paid, p_spend, p_given, p_outer, p_named, p_read, p_load, p_put, p_write, p_store, p_own_value, p_assigned, p_variable, p_used, p_compared, p_operated, p_combined, p_assignment, p_put_one, p_call, p_condition, p_first, p_go_on, p_within, p_enter, p_leave, p_returned, p_value, p_does, p_result, p_function}
use Rattle.c_apart.proofs.Turns.{Turned, LoopEnded, loop_ends}
use Rattle.c_apart.proofs.Words.{unsigned_difference, int_sum, unsigned_at_most}
use Rattle.c_products.proofs.Product.{holding}
use Rattle.c_products.specs.MovesFound.{definition}
use Rattle.c_formats.specs.DigitsLaws.{digit_parameters, KnowsPut}

abbrev frame : Bool → ℕ → ℕ → ℕ → List Object
frame live x y z = holding live x ∷ holding live y ∷ holding live z ∷ []

-- the place of the loop
abbrev here : Tags → Names → List (List ℕ) → Environment
here tags names defined = record {
  scope = record { tags = tags; block = (r, entity.Object type.Int) ∷ []; outer = (b, entity.Object type.Unsigned) ∷ (a, entity.Object type.Unsigned) ∷ names; defined = defined };
  objects = (r, Some 2) ∷ (a, Some 0) ∷ (b, Some 1) ∷ [];
  next = 3;
  literals_before = 0;
}

module _ (tags : Tags) (names : Names) (defined : List (List ℕ)) (deep : ℕ) (st0 : State) (spare y rest q : ℕ) (less_than : rest < y) (few : q < 16) (fits : q * y + rest < 2 ^ 24) where
  abbrev test : Part Bool
  test = p_condition (p_value (at_most (variable b) (variable a)) nobody (here tags names defined))

  abbrev body : Part Flow
  body = p_does (block (set a (less (variable a) (variable b)) ∷ raised r ∷ [])) deep nobody (here tags names defined)

  -- with k turns left
  record Inv (k : ℕ) (st : State) (own : List Object) : Type 0 where
    most : k ≤ q
    state : st ≡ record st0 { spare = k + spare }
    objects : own ≡ frame true (k * y + rest) y (48 + (q - k))

  tests : (st : State) (own : List Object) (x z : ℕ) (t : Bool) → own ≡ frame true x y z → nat_le y x ≡ t → test st own ≡ Done t st own
  unfolding p_after p_bind p_give p_choose p_given p_outer p_named p_read p_load p_own_value p_variable p_used p_compared p_operated p_combined p_condition used give of_word word_result on_words
  tests st own x z true e f = rw (e, unsigned_at_most y x ∙ f) refl
  tests st own x z false e f = rw (e, unsigned_at_most y x ∙ f) refl

  turn_runs : (st : State) (x z : ℕ) → body st (frame true x y z) ≡ Done Next st (frame true (wrapped (pos x -ℤ pos y)) y (wrapped (signed_of z +ℤ signed_of 1)))
  unfolding p_after p_bind p_give p_stuck p_choose p_given p_outer p_named p_read p_load p_put p_write p_store p_own_value p_assigned p_variable p_used p_compared p_operated p_combined p_assignment p_go_on p_within p_enter p_leave used give unless of_word word_result on_words sum difference operated
  turn_runs st x z = refl

  -- a turn takes y once
  most_of : (k : ℕ) → suc k ≤ q → suc k * y + rest < 2 ^ 24
  most_of k le = let m : suc k * y ≤ q * y = mul-le-mul_right y le in omega (arith, m, fits)

  taken : (k : ℕ) → suc k ≤ q → wrapped (pos (suc k * y + rest) -ℤ pos y) ≡ k * y + rest
  taken k le = let m : suc k * y + rest < 2 ^ 24 = most_of k le in unsigned_difference (suc k * y + rest) y m (omega (arith, m)) ∙ omega (arith, m)

  raises : (k : ℕ) → suc k ≤ q → wrapped (signed_of (48 + (q - suc k)) +ℤ signed_of 1) ≡ 48 + (q - k)
  raises k le = int_sum (48 + (q - suc k)) 1 (omega (arith, few)) (omega arith) ∙ omega (arith, le, few)

  step : (k : ℕ) (st : State) (own : List Object) → Inv (suc k) st own → Turned test body (Inv k) st own
  step k st own v = record {
    goes = tests st own (suc k * y + rest) (48 + (q - suc k)) true v.objects (le-leb y (suc k * y + rest) (omega arith));
    spare = k + spare;
    pays = ap (λ (w : State). w.spare) v.state ∙ omega arith;
    state = record st { spare = k + spare };
    objects = frame true (k * y + rest) y (48 + (q - k));
    turns = ap (body (record st { spare = k + spare })) v.objects ∙ (turn_runs (record st { spare = k + spare }) (suc k * y + rest) (48 + (q - suc k)) ∙ λ i. Done Next (record st { spare = k + spare }) (frame true (taken k v.most i) y (raises k v.most i)));
    next = record { most = omega (arith, v.most); state = ap (λ (w : State). record w { spare = k + spare }) v.state; objects = refl };
  }

  done : (st : State) (own : List Object) → Inv 0 st own → test st own ≡ Done false st own
  done st own v = tests st own (0 * y + rest) (48 + (q - 0)) false v.objects (lt-leb y (0 * y + rest) (omega (arith, less_than)))

  loop_runs : (st : State) (own : List Object) → q < deep → Inv q st own → LoopEnded deep test body (Inv 0) st own
  loop_runs st own lt v = loop_ends test body Inv step done q deep st own lt v

  last : (st : State) (own : List Object) (v : Inv 0 st own) → Done Next st own ≡ Done Next (record st0 { spare = spare }) (frame true rest y (48 + q))
  last st own v = λ i. Done Next ((v.state ∙ ap (λ z. record st0 { spare = z }) none) i) ((v.objects ∙ ap₂ (λ x z. frame true x y z) left all) i)
    where
      none : 0 + spare ≡ spare
      none = omega arith

      left : 0 * y + rest ≡ rest
      left = omega arith

      all : 48 + (q - 0) ≡ 48 + q
      all = omega arith

-- the letter of a digit
letter_is : (q : ℕ) (t : Bool) → q < 16 → int_lt (signed_of 57) (signed_of (48 + q)) ≡ t → cond t (wrapped (signed_of (48 + q) +ℤ signed_of 39)) (48 + q) ≡ digit_glyph false q
letter_is q true lt e = int_sum (48 + q) 39 (omega (arith, lt)) (omega arith) ∙ (omega (arith, lt) ∙ ap (λ t. if t then 48 + q else 87 + q) (sym (le-ltb q 10 (high q lt e))))
  where
    high : (q : ℕ) → q < 16 → int_lt (signed_of 57) (signed_of (48 + q)) ≡ true → 10 ≤ q
    high q lt e = grind (arith, lt, e)
letter_is q false lt e = ap (λ t. if t then 48 + q else 87 + q) (sym (lt-ltb q 10 (low q lt e)))
  where
    low : (q : ℕ) → q < 16 → int_lt (signed_of 57) (signed_of (48 + q)) ≡ false → q < 10
    low q lt e = grind (arith, lt, e)

-- behind the loop
module _ (tags : Tags) (names : Names) (defined : List (List ℕ)) (deep spare x y rest q : ℕ) (st : State) (less_than : rest < y) (few : q < 16) (fits : q * y + rest < 2 ^ 24) (lt : q < deep) (known : KnowsPut names) where
  from_start : Inv tags names defined deep st (suc spare) y rest q less_than few fits q (record st { spare = q + suc spare }) (frame true (q * y + rest) y 48)
  from_start = record { most = omega arith; state = refl; objects = ap (λ z. frame true (q * y + rest) y z) (omega arith) }

  pub written : (t : Bool) → int_lt (signed_of 57) (signed_of (48 + q)) ≡ t →
      p_function (definition type.Unsigned digit_parameters digit tags names defined) deep nobody (Word (q * y + rest) ∷ Word y ∷ []) (record st { spare = q + suc spare }) []
      ≡ Done (Word rest) (record st { spare = spare; output = st.output ++ cond t (wrapped (signed_of (48 + q) +ℤ signed_of 39)) (48 + q) % 2 ^ 8 ∷ [] }) (frame false rest y (cond t (wrapped (signed_of (48 + q) +ℤ signed_of 39)) (48 + q)))
  unfolding p_after p_bind p_give p_stuck p_choose p_paid p_spend p_given p_outer p_named p_read p_load p_put p_write p_store p_own_value p_assigned p_variable p_used p_compared p_operated p_combined p_assignment p_put_one p_call p_condition p_first p_go_on p_within p_enter p_leave p_returned p_result p_function used give unless put of_word word_result on_words sum order operated
  written true e =
      let l = loop_runs tags names defined deep st (suc spare) y rest q less_than few fits (record st { spare = q + suc spare }) (frame true (q * y + rest) y 48) lt from_start in
      rw (l.ends ∙ last tags names defined deep st (suc spare) y rest q less_than few fits l.state l.objects l.last, e, known) refl
  written false e =
      let l = loop_runs tags names defined deep st (suc spare) y rest q less_than few fits (record st { spare = q + suc spare }) (frame true (q * y + rest) y 48) lt from_start in
      rw (l.ends ∙ last tags names defined deep st (suc spare) y rest q less_than few fits l.state l.objects l.last, e, known) refl

-- the whole function, from two words
pub digit_runs : (tags : Tags) (names : Names) (defined : List (List ℕ)) (deep spare x y : ℕ) (st : State) → x < 2 ^ 24 → 0 < y → x / y < 16 → x / y < deep → KnowsPut names →
    (own : List Object) × (p_function (definition type.Unsigned digit_parameters digit tags names defined) deep nobody (Word x ∷ Word y ∷ []) (record st { spare = x / y + suc spare }) []
    ≡ Done (Word (x % y)) (record st { spare = spare; output = st.output ++ digit_glyph false (x / y) % 2 ^ 8 ∷ [] }) own)
digit_runs tags names defined deep spare x y st sx some few lt known = (frame false (x % y) y (letter t), e ∙ (w ∙ ap (λ c. Done (Word (x % y)) (record st { spare = spare; output = st.output ++ c % 2 ^ 8 ∷ [] }) (frame false (x % y) y (letter t))) (letter_is (x / y) t few refl)))
  where
    t : Bool
    t = int_lt (signed_of 57) (signed_of (48 + x / y))

    letter : Bool → ℕ
    letter t = cond t (wrapped (signed_of (48 + x / y) +ℤ signed_of 39)) (48 + x / y)

    parts : x / y * y + x % y ≡ x
    parts = div-add-mod' x y

    e : p_function (definition type.Unsigned digit_parameters digit tags names defined) deep nobody (Word x ∷ Word y ∷ []) (record st { spare = x / y + suc spare }) [] ≡ p_function (definition type.Unsigned digit_parameters digit tags names defined) deep nobody (Word (x / y * y + x % y) ∷ Word y ∷ []) (record st { spare = x / y + suc spare }) []
    e = ap (λ z. p_function (definition type.Unsigned digit_parameters digit tags names defined) deep nobody (Word z ∷ Word y ∷ []) (record st { spare = x / y + suc spare }) []) (sym parts)

    w : p_function (definition type.Unsigned digit_parameters digit tags names defined) deep nobody (Word (x / y * y + x % y) ∷ Word y ∷ []) (record st { spare = x / y + suc spare }) [] ≡ Done (Word (x % y)) (record st { spare = spare; output = st.output ++ letter t % 2 ^ 8 ∷ [] }) (frame false (x % y) y (letter t))
    w = written tags names defined deep spare x y (x % y) (x / y) st (mod-lt x some) few (subst (λ z. z < 2 ^ 24) (sym parts) sx) lt known t refl
