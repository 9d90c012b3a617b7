-- The helper function of quotients without sign computes the quotient.
use Rattle.std.proofs.Common.{◌≡◌, ⊎_elim, ℕ, suc, ◌+◌, ◌-◌, ◌*◌, ◌/◌, ◌^◌, ◌<◌, ◌≤◌, List, [], ◌∷◌, Some, Bool, true, false, cond, nat_lt, nat_le, not, refl, sym, ap, ◌∙◌, subst, arith, pow-suc, mul-le-mul_right}
use Rattle.std.specs.Prelude.{pos, ◌+ℤ◌, ◌-ℤ◌, int_lt}
use Rattle.std.proofs.lemmas.Bool.{cases_lt, lt-ltb, le-ltb, le-leb, lt-leb, ltb-true, ltb-false, ne_eqb}
use Rattle.std.proofs.lemmas.Nat.{div-mul-add}
use Rattle.word24.specs.Word.{sum_word, signed_of}
use Rattle.c_types.specs.Types as type
use Rattle.c_types.specs.Types.{Tags}
use Rattle.c_types.specs.Constants.{wrapped, truth}
use Rattle.c_types.specs.Scope as entity
use Rattle.c_types.specs.Scope.{Scope, Names}
use Rattle.c_eval.specs.State.{Word, Unset, Object, State}
use Rattle.c_eval.specs.Run.{unless, give}
use Rattle.c_eval.specs.Operators.{used, of_word, word_result, on_words, sum, difference, equality, order, operated}
use Rattle.c_eval.specs.Environment.{Environment}
use Rattle.c_eval.specs.Eval.{Flow, Next}
use Rattle.c_eval.specs.Text.{Definition}
use Rattle.c_helpers.specs.Terms.{variable}
use Rattle.c_helpers.specs.Functions.{a, b, n, r, unsigned_quotient, quotient_turn}
use Rattle.c_products.specs.Found.{two_scope}
use Rattle.c_apart.proofs.Apart.{Done, Part, nobody, p_after, p_bind, p_give, p_stuck, p_choose, p_given, p_outer, p_named, p_read, p_load, p_put, p_write, p_store, p_own_value, p_assigned, p_variable, p_used, p_unary, p_compared, p_operated, p_combined, p_cast, p_assignment, p_condition, p_first, p_go_on, p_within, p_enter, p_leave, p_returned, p_value, p_does, p_result, p_function}
use Rattle.c_apart.proofs.Turns.{Turned, LoopEnded, loop_ends}
use Rattle.c_apart.proofs.Words.{unsigned_sum, unsigned_difference, is_below_zero}
use Rattle.c_products.proofs.Product.{holding, frame, less_one}

abbrev pub quotient_definition : Tags → Names → List (List ℕ) → Definition
quotient_definition tags names defined = record { name = unsigned_quotient.name; result = type.Unsigned; params = a ∷ b ∷ []; scope = two_scope type.Unsigned tags names defined; body = unsigned_quotient.body }

-- the place of the loop
abbrev here : Tags → Names → List (List ℕ) → Environment
here tags names defined = record {
  scope = record { tags = tags; block = (n, entity.Object type.Int) ∷ (r, entity.Object type.Unsigned) ∷ []; outer = (b, entity.Object type.Unsigned) ∷ (a, entity.Object type.Unsigned) ∷ names; defined = defined };
  objects = (n, Some 3) ∷ (r, Some 2) ∷ (a, Some 0) ∷ (b, Some 1) ∷ [];
  next = 4;
  literals_before = 0;
}

abbrev add : ℕ → ℕ → ℕ
add x y = wrapped (pos x +ℤ pos y)

-- the rest with the next bit
abbrev rest_with : Bool → ℕ → ℕ
rest_with t s = cond t (add (add s s) 1) (add s s)

turn_runs : (tags : Tags) (names : Names) (defined : List (List ℕ)) (deep : ℕ) (st : State) (x y s k : ℕ) (t u : Bool) → int_lt (signed_of x) (signed_of 0) ≡ t → int_lt (pos (rest_with t s)) (pos y) ≡ u
    → p_does quotient_turn deep nobody (here tags names defined) st (frame true x y s k)
    ≡ Done Next st (frame true (cond u (add x x) (add (add x x) 1)) y (cond u (rest_with t s) (wrapped (pos (rest_with t s) -ℤ pos y))) (wrapped (signed_of k -ℤ signed_of 1)))
unfolding p_after p_bind p_give p_stuck p_choose p_given p_outer p_named p_read p_load p_put p_write p_store p_own_value p_assigned p_variable p_used p_unary p_compared p_operated p_combined p_cast p_assignment p_condition p_first p_go_on p_within p_enter p_leave p_returned used give unless of_word word_result on_words sum difference equality order operated
turn_runs tags names defined deep st x y s k true true e f = rw (e, f) refl
turn_runs tags names defined deep st x y s k true false e f = rw (e, f) refl
turn_runs tags names defined deep st x y s k false true e f = rw (e, f) refl
turn_runs tags names defined deep st x y s k false false e f = rw (e, f) refl

-- ---- numbers: s is what is left of x, at the scale c above the quotient q so far

record Inv (st0 : State) (spare y all k : ℕ) (st : State) (own : List Object) : Type 0 where
  few : k ≤ 24
  s : ℕ
  q : ℕ
  rest : ℕ
  c : ℕ
  state : st ≡ record st0 { spare = k + spare }
  objects : own ≡ frame true (s * c + q) y rest k
  scaled : c * 2 ^ k ≡ 2 ^ 24
  below : s < 2 ^ k
  small : q < c
  less : rest < y
  sum : (q * y + rest) * 2 ^ k + s ≡ all

bound : (p s c q : ℕ) → c * (2 * p) ≡ 2 ^ 24 → s < 2 * p → q < c → s * c + q < 2 ^ 24
bound p s c q e lt h = let le : suc s * c ≤ 2 * p * c = mul-le-mul_right c lt in omega (arith, e, le, h)

high_bit : (p s c q : ℕ) → c * (2 * p) ≡ 2 ^ 24 → 2 ^ 23 ≤ (p + s) * c + q
high_bit p s c q e = omega (arith, e)

low_bit : (p s c q : ℕ) → c * (2 * p) ≡ 2 ^ 24 → s < p → q < c → s * c + q < 2 ^ 23
low_bit p s c q e lt h = let le : suc s * c ≤ p * c = mul-le-mul_right c lt in omega (arith, e, le, h)

high_rest : (p s c q : ℕ) → c * (2 * p) ≡ 2 ^ 24 → s < p → q < c → sum_word ((p + s) * c + q) ((p + s) * c + q) ≡ s * (2 * c) + 2 * q
high_rest p s c q e lt h = let le : suc s * c ≤ p * c = mul-le-mul_right c lt in omega (arith, e, le, h)

low_rest : (p s c q : ℕ) → c * (2 * p) ≡ 2 ^ 24 → s < p → q < c → sum_word (s * c + q) (s * c + q) ≡ s * (2 * c) + 2 * q
low_rest p s c q e lt h = let le : suc s * c ≤ p * c = mul-le-mul_right c lt in omega (arith, e, le, h)

one_more : (p s c q : ℕ) → c * (2 * p) ≡ 2 ^ 24 → s < p → q < c → add (s * (2 * c) + 2 * q) 1 ≡ s * (2 * c) + (2 * q + 1)
one_more p s c q e lt h = let le : suc s * c ≤ p * c = mul-le-mul_right c lt in unsigned_sum (s * (2 * c) + 2 * q) 1 ∙ omega (arith, e, le, h)

-- with v the bit, the sums of the two ends of a turn
stays_sum : (p s q x y v : ℕ) → (2 * q * y + (2 * x + v)) * p + s ≡ (q * y + x) * (2 * p) + (v * p + s)
stays_sum p s q x y v = omega arith

gains_sum : (p s q y d : ℕ) → ((2 * q + 1) * y + d) * p + s ≡ (2 * q * y + (y + d)) * p + s
gains_sum p s q y d = omega arith

doubled_rest : (x : ℕ) → x < 2 ^ 23 → add x x ≡ 2 * x
doubled_rest x lt = unsigned_sum x x ∙ omega (arith, lt)

raised_rest : (x : ℕ) → x < 2 ^ 23 → add (add x x) 1 ≡ 2 * x + 1
raised_rest x lt = ap (λ z. add z 1) (doubled_rest x lt) ∙ (unsigned_sum (2 * x) 1 ∙ omega (arith, lt))

less_is : (x y : ℕ) → int_lt (pos x) (pos y) ≡ nat_lt x y
less_is x y = grind arith

module _ (tags : Tags) (names : Names) (defined : List (List ℕ)) (deep : ℕ) (st0 : State) (spare y all : ℕ) (low : y < 2 ^ 23) where
  abbrev test : Part Bool
  test = p_condition (p_value (variable n) nobody (here tags names defined))

  abbrev body : Part Flow
  body = p_does quotient_turn deep nobody (here tags names defined)

  goes : (st : State) (own : List Object) (k x s : ℕ) → own ≡ frame true x y s (suc k) → test st own ≡ Done true st own
  unfolding p_after p_bind p_give p_choose p_given p_outer p_named p_read p_load p_own_value p_variable p_used p_condition used give
  goes st own k x s e = rw (e, ne_eqb (suc k) 0 (λ z. absurd (omega (arith, z)))) refl

  stays : (st : State) (own : List Object) (x s : ℕ) → own ≡ frame true x y s 0 → test st own ≡ Done false st own
  unfolding p_after p_bind p_give p_choose p_given p_outer p_named p_read p_load p_own_value p_variable p_used p_condition used give
  stays st own x s e = rw e refl

  -- behind the bit: t is the bit and v its number
  rest : (k x s q z c z1 v : ℕ) (t : Bool) (st : State) (own : List Object) → st ≡ record st0 { spare = suc k + spare } → own ≡ frame true x y z (suc k) → k < 24 → int_lt (signed_of x) (signed_of 0) ≡ t → add x x ≡ s * (2 * c) + 2 * q → rest_with t z ≡ z1
      → z1 ≡ 2 * z + v → z1 < 2 * y → c * (2 * 2 ^ k) ≡ 2 ^ 24 → s < 2 ^ k → q < c → (q * y + z) * (2 * 2 ^ k) + (v * 2 ^ k + s) ≡ all → Turned test body (Inv st0 spare y all k) st own
  rest k x s q z c z1 v t st own se oe lt bit double rem is two scaled below small sum = ⊎_elim keeps gains (cases_lt z1 y)
    where
      pays : st.spare ≡ suc (k + spare)
      pays = ap (λ (w : State). w.spare) se ∙ omega arith

      same : record st { spare = k + spare } ≡ record st0 { spare = k + spare }
      same = ap (λ (w : State). record w { spare = k + spare }) se

      scale : 2 * c * 2 ^ k ≡ 2 ^ 24
      scale = omega (arith, scaled)

      before : (2 * q * y + z1) * 2 ^ k + s ≡ all
      before = ap (λ w. (2 * q * y + w) * 2 ^ k + s) is ∙ (stays_sum (2 ^ k) s q z y v ∙ sum)

      tested : (u : Bool) → nat_lt z1 y ≡ u → int_lt (pos (rest_with t z)) (pos y) ≡ u
      tested u e = ap (λ w. int_lt (pos w) (pos y)) rem ∙ (less_is z1 y ∙ e)

      turn : (u : Bool) (x' z' : ℕ) → nat_lt z1 y ≡ u → cond u (add x x) (add (add x x) 1) ≡ x' → cond u (rest_with t z) (wrapped (pos (rest_with t z) -ℤ pos y)) ≡ z' → body (record st { spare = k + spare }) own ≡ Done Next (record st { spare = k + spare }) (frame true x' y z' k)
      turn u x' z' e f g = ap (body (record st { spare = k + spare })) oe ∙ (turn_runs tags names defined deep (record st { spare = k + spare }) x y z (suc k) t u bit (tested u e) ∙ λ i. Done Next (record st { spare = k + spare }) (frame true (f i) y (g i) (less_one k lt i)))

      taken : y ≤ z1 → wrapped (pos (rest_with t z) -ℤ pos y) ≡ z1 - y
      taken h = ap (λ w. wrapped (pos w -ℤ pos y)) rem ∙ (unsigned_difference z1 y (omega (arith, two, low)) (omega (arith, low)) ∙ omega (arith, h, two, low))

      keeps : z1 < y → Turned test body (Inv st0 spare y all k) st own
      keeps h = record {
        goes = goes st own k x z oe;
        spare = k + spare;
        pays = pays;
        state = record st { spare = k + spare };
        objects = frame true (s * (2 * c) + 2 * q) y z1 k;
        turns = turn true (s * (2 * c) + 2 * q) z1 (lt-ltb z1 y h) double rem;
        next = record { few = omega (arith, lt); s = s; q = 2 * q; rest = z1; c = 2 * c; state = same; objects = refl; scaled = scale; below = below; small = omega (arith, small); less = h; sum = before };
      }

      gains : y ≤ z1 → Turned test body (Inv st0 spare y all k) st own
      gains h = record {
        goes = goes st own k x z oe;
        spare = k + spare;
        pays = pays;
        state = record st { spare = k + spare };
        objects = frame true (s * (2 * c) + (2 * q + 1)) y (z1 - y) k;
        turns = turn false (s * (2 * c) + (2 * q + 1)) (z1 - y) (le-ltb z1 y h) (ap (λ w. add w 1) double ∙ one_more (2 ^ k) s c q scaled below small) (taken h);
        next = record { few = omega (arith, lt); s = s; q = 2 * q + 1; rest = z1 - y; c = 2 * c; state = same; objects = refl; scaled = scale; below = below; small = omega (arith, small); less = omega (arith, h, two); sum = gains_sum (2 ^ k) s q y (z1 - y) ∙ (ap (λ w. (2 * q * y + w) * 2 ^ k + s) (omega (arith, h)) ∙ before) };
      }

  step : (k : ℕ) (st : State) (own : List Object) → Inv st0 spare y all (suc k) st own → Turned test body (Inv st0 spare y all k) st own
  step k st own v = ⊎_elim lower higher (cases_lt v.s (2 ^ k))
    where
      lt : k < 24
      lt = omega (arith, v.few)

      more : 2 ^ suc k ≡ 2 * 2 ^ k
      more = omega (arith, pow-suc 2 k)

      scaled : v.c * (2 * 2 ^ k) ≡ 2 ^ 24
      scaled = ap (λ z. v.c * z) (sym more) ∙ v.scaled

      sum : (v.q * y + v.rest) * (2 * 2 ^ k) + v.s ≡ all
      sum = ap (λ z. (v.q * y + v.rest) * z + v.s) (sym more) ∙ v.sum

      lower : v.s < 2 ^ k → Turned test body (Inv st0 spare y all k) st own
      lower h =
          let bit : v.s * v.c + v.q < 2 ^ 23 = low_bit (2 ^ k) v.s v.c v.q scaled h v.small in
          rest k (v.s * v.c + v.q) v.s v.q v.rest v.c (2 * v.rest) 0 false st own v.state v.objects lt (is_below_zero (v.s * v.c + v.q) (omega (arith, bit)) ∙ lt-leb (2 ^ 23) (v.s * v.c + v.q) bit) (unsigned_sum (v.s * v.c + v.q) (v.s * v.c + v.q) ∙ low_rest (2 ^ k) v.s v.c v.q scaled h v.small) (doubled_rest v.rest (omega (arith, v.less, low))) (omega arith) (omega (arith, v.less)) scaled h v.small (ap (λ z. (v.q * y + v.rest) * (2 * 2 ^ k) + z) (omega arith) ∙ sum)

      higher : 2 ^ k ≤ v.s → Turned test body (Inv st0 spare y all k) st own
      higher h = rest k ((2 ^ k + s) * v.c + v.q) s v.q v.rest v.c (2 * v.rest + 1) 1 true st own v.state (subst (λ z. own ≡ frame true (z * v.c + v.q) y v.rest (suc k)) is v.objects) lt (is_below_zero ((2 ^ k + s) * v.c + v.q) (bound (2 ^ k) (2 ^ k + s) v.c v.q scaled (omega (arith, small)) v.small) ∙ le-leb (2 ^ 23) ((2 ^ k + s) * v.c + v.q) (high_bit (2 ^ k) s v.c v.q scaled)) (unsigned_sum ((2 ^ k + s) * v.c + v.q) ((2 ^ k + s) * v.c + v.q) ∙ high_rest (2 ^ k) s v.c v.q scaled small v.small) (raised_rest v.rest (omega (arith, v.less, low))) refl (omega (arith, v.less)) scaled small v.small (ap (λ z. (v.q * y + v.rest) * (2 * 2 ^ k) + z) (omega (arith, h)) ∙ sum)
        where
          s : ℕ
          s = v.s - 2 ^ k

          is : v.s ≡ 2 ^ k + s
          is = omega (arith, h)

          small : s < 2 ^ k
          small = omega (arith, h, v.below, more)

  done : (st : State) (own : List Object) → Inv st0 spare y all 0 st own → test st own ≡ Done false st own
  done st own v = stays st own (v.s * v.c + v.q) v.rest v.objects

  loop_runs : (d : ℕ) (st : State) (own : List Object) → 24 < d → Inv st0 spare y all 24 st own → LoopEnded d test body (Inv st0 spare y all 0) st own
  loop_runs d st own lt v = loop_ends test body (Inv st0 spare y all) step done 24 d st own lt v

  -- at the end the quotient is whole
  last : (st : State) (own : List Object) (v : Inv st0 spare y all 0 st own) → Done Next st own ≡ Done Next (record st0 { spare = spare }) (frame true (all / y) y v.rest 0)
  last st own v = λ i. Done Next ((v.state ∙ ap (λ z. record st0 { spare = z }) none_left) i) ((v.objects ∙ ap (λ z. frame true z y v.rest 0) whole) i)
    where
      none_left : 0 + spare ≡ spare
      none_left = omega arith

      none : v.s ≡ 0
      none = omega (arith, v.below)

      all_is : v.q * y + v.rest ≡ all
      all_is = omega (arith, v.sum, none)

      whole : v.s * v.c + v.q ≡ all / y
      whole = ap (λ z. z * v.c + v.q) none ∙ (zero_times v.c v.q ∙ (sym (div-mul-add v.q y v.rest v.less) ∙ ap (λ z. z / y) all_is))
        where
          zero_times : (c q : ℕ) → 0 * c + q ≡ q
          zero_times c q = omega arith

-- a divisor of 2^23 or more
once : (x y : ℕ) → x < 2 ^ 24 → 2 ^ 23 ≤ y → (t : Bool) → int_lt (pos x) (pos y) ≡ t → truth (not t) ≡ x / y
once x y lt high true e = let less : x < y = ltb-true x y (sym (less_is x y) ∙ e) in sym (ap (λ z. z / y) (none x y) ∙ div-mul-add 0 y x less)
  where
    none : (x y : ℕ) → x ≡ 0 * y + x
    none x y = omega arith
once x y lt high false e =
    let le : y ≤ x = ltb-false x y (sym (less_is x y) ∙ e) in
    sym (ap (λ z. z / y) (one x y le) ∙ div-mul-add 1 y (x - y) (omega (arith, lt, high, le)))
  where
    one : (x y : ℕ) → y ≤ x → x ≡ 1 * y + (x - y)
    one x y le = omega (arith, le)

-- from two words, by a divisor below 2^23, with 24 units and more
low_runs : (tags : Tags) (names : Names) (defined : List (List ℕ)) (deep spare x y : ℕ) (st : State) → 24 < deep → x < 2 ^ 24 → 0 < y → y < 2 ^ 23
    → (own : List Object) × (p_function (quotient_definition tags names defined) deep nobody (Word x ∷ Word y ∷ []) (record st { spare = 24 + spare }) [] ≡ Done (Word (x / y)) (record st { spare = spare }) own)
unfolding p_after p_bind p_give p_stuck p_choose p_given p_outer p_named p_read p_load p_put p_write p_store p_own_value p_assigned p_variable p_used p_unary p_compared p_operated p_combined p_cast p_condition p_first p_go_on p_within p_enter p_leave p_returned p_result p_function used give of_word word_result on_words
low_runs tags names defined deep spare x y st lt sx some low = (frame false (x / y) y l.last.rest 0, rw (is_below_zero y (omega (arith, low)) ∙ lt-leb (2 ^ 23) y low, l.ends ∙ last tags names defined deep st spare y x low l.state l.objects l.last) refl)
  where
    first : Inv st spare y x 24 (record st { spare = 24 + spare }) (frame true x y 0 24)
    first = record { few = omega arith; s = x; q = 0; rest = 0; c = 1; state = refl; objects = ap (λ z. frame true z y 0 24) (omega arith); scaled = refl; below = sx; small = omega arith; less = some; sum = omega arith }

    l : LoopEnded deep (p_condition (p_value (variable n) nobody (here tags names defined))) (p_does quotient_turn deep nobody (here tags names defined)) (Inv st spare y x 0) (record st { spare = 24 + spare }) (frame true x y 0 24)
    l = loop_runs tags names defined deep st spare y x low deep (record st { spare = 24 + spare }) (frame true x y 0 24) lt first

-- by one of 2^23 or more
high_runs : (tags : Tags) (names : Names) (defined : List (List ℕ)) (deep spare x y : ℕ) (st : State) (t : Bool) → x < 2 ^ 24 → y < 2 ^ 24 → 2 ^ 23 ≤ y → int_lt (pos x) (pos y) ≡ t
    → p_function (quotient_definition tags names defined) deep nobody (Word x ∷ Word y ∷ []) (record st { spare = spare }) [] ≡ Done (Word (truth (not t))) (record st { spare = spare }) (holding false x ∷ holding false y ∷ record { live = false; cells = Unset ∷ [] } ∷ record { live = false; cells = Unset ∷ [] } ∷ [])
unfolding p_after p_bind p_give p_stuck p_choose p_given p_outer p_named p_read p_load p_put p_write p_store p_own_value p_assigned p_variable p_used p_unary p_compared p_operated p_combined p_cast p_condition p_first p_go_on p_within p_enter p_leave p_returned p_result p_function used give of_word word_result on_words order operated
high_runs tags names defined deep spare x y st true sx sy high e = rw (is_below_zero y sy ∙ le-leb (2 ^ 23) y high, e) refl
high_runs tags names defined deep spare x y st false sx sy high e = rw (is_below_zero y sy ∙ le-leb (2 ^ 23) y high, e) refl

-- a divisor of 2^23 or more takes no turn
abbrev pub quotient_units : ℕ → ℕ
quotient_units y = cond (nat_le (2 ^ 23) y) 0 24

-- the whole function, from two words
pub quotient_runs : (tags : Tags) (names : Names) (defined : List (List ℕ)) (deep spare x y : ℕ) (st : State) → quotient_units y < deep → x < 2 ^ 24 → y < 2 ^ 24 → 0 < y
    → (own : List Object) × (p_function (quotient_definition tags names defined) deep nobody (Word x ∷ Word y ∷ []) (record st { spare = quotient_units y + spare }) [] ≡ Done (Word (x / y)) (record st { spare = spare }) own)
quotient_runs tags names defined deep spare x y st lt sx sy some = ⊎_elim low high (cases_lt y (2 ^ 23))
  where
    goal : ℕ → Type 0
    goal units = (own : List Object) × (p_function (quotient_definition tags names defined) deep nobody (Word x ∷ Word y ∷ []) (record st { spare = units + spare }) [] ≡ Done (Word (x / y)) (record st { spare = spare }) own)

    low : y < 2 ^ 23 → goal (quotient_units y)
    low less =
        let units : quotient_units y ≡ 24 = ap (λ b. cond b 0 24) (lt-leb (2 ^ 23) y less) in
        subst goal (sym units) (low_runs tags names defined deep spare x y st (subst (λ z. z < deep) units lt) sx some less)

    high : 2 ^ 23 ≤ y → goal (quotient_units y)
    high more =
        let units : quotient_units y ≡ 0 = ap (λ b. cond b 0 24) (le-leb (2 ^ 23) y more) in
        subst goal (sym units) (
          holding false x ∷ holding false y ∷ record { live = false; cells = Unset ∷ [] } ∷ record { live = false; cells = Unset ∷ [] } ∷ [],
          ap (λ z. p_function (quotient_definition tags names defined) deep nobody (Word x ∷ Word y ∷ []) (record st { spare = z }) []) none
              ∙ (high_runs tags names defined deep spare x y st (int_lt (pos x) (pos y)) sx sy more refl ∙ ap (λ z. Done (Word z) (record st { spare = spare }) (holding false x ∷ holding false y ∷ record { live = false; cells = Unset ∷ [] } ∷ record { live = false; cells = Unset ∷ [] } ∷ [])) (once x y sx more (int_lt (pos x) (pos y)) refl)),
        )
      where
        none : 0 + spare ≡ spare
        none = omega arith
