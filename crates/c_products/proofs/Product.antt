-- The helper function of products computes the product.
use Rattle.std.proofs.Common.{◌≡◌, ⊎_elim, ℕ, zero, suc, ◌+◌, ◌-◌, ◌*◌, ◌%◌, ◌^◌, ◌<◌, ◌≤◌, List, [], ◌∷◌, Some, Bool, true, false, cond, refl, sym, ap, ◌∙◌, subst, arith, pow-suc, mul-le-mul_right}
use Rattle.std.specs.Prelude.{◌+ℤ◌, ◌-ℤ◌, int_lt}
use Rattle.std.proofs.lemmas.Bool.{cases_lt, le-leb, lt-leb, ne_eqb}
use Rattle.word24.specs.Word.{sum_word, signed_of}
use Rattle.c_types.specs.Types as type
use Rattle.c_types.specs.Types.{Tags}
use Rattle.c_types.specs.Constants.{wrapped}
use Rattle.c_types.specs.Scope as entity
use Rattle.c_types.specs.Scope.{Scope, Names}
use Rattle.c_eval.specs.State.{Word, Holds, Object, State}
use Rattle.c_eval.specs.Run.{unless, give}
use Rattle.c_eval.specs.Operators.{used, of_word, word_result, on_words, sum, difference, equality, order, operated}
use Rattle.c_eval.specs.Environment.{Environment}
use Rattle.c_eval.specs.Eval.{Flow, Next}
use Rattle.c_eval.specs.Text.{Definition}
use Rattle.c_helpers.specs.Terms.{variable}
use Rattle.c_helpers.specs.Functions.{a, b, n, r, product, product_turn}
use Rattle.c_products.specs.Found.{two_scope}
use Rattle.c_apart.proofs.Apart.{Done, Part, nobody, p_after, p_bind, p_give, p_stuck, p_choose, p_given, p_outer, p_named, p_read, p_load, p_put, p_write, p_store, p_own_value, p_assigned, p_variable, p_used, p_unary, p_compared, p_operated, p_combined, p_cast, p_assignment, p_condition, p_first, p_go_on, p_within, p_enter, p_leave, p_returned, p_value, p_does, p_result, p_function}
use Rattle.c_apart.proofs.Turns.{Turned, LoopEnded, loop_ends}
use Rattle.c_apart.proofs.Words.{int_sum, int_difference, is_below_zero}

abbrev pub holding : Bool → ℕ → Object
holding live v = record { live = live; cells = Holds (Word v) ∷ [] }

abbrev pub product_definition : Tags → Names → List (List ℕ) → Definition
product_definition tags names defined = record { name = product.name; result = type.Int; params = a ∷ b ∷ []; scope = two_scope type.Int tags names defined; body = product.body }

-- the own objects: both arguments, the sum, and the turns that are left
abbrev pub frame : Bool → ℕ → ℕ → ℕ → ℕ → List Object
frame live x y s k = holding live x ∷ holding live y ∷ holding live s ∷ holding live k ∷ []

-- the place of the loop
abbrev pub here : Tags → Names → List (List ℕ) → Environment
here tags names defined = record {
  scope = record { tags = tags; block = (n, entity.Object type.Int) ∷ (r, entity.Object type.Int) ∷ []; outer = (b, entity.Object type.Int) ∷ (a, entity.Object type.Int) ∷ names; defined = defined };
  objects = (n, Some 3) ∷ (r, Some 2) ∷ (a, Some 0) ∷ (b, Some 1) ∷ [];
  next = 4;
  literals_before = 0;
}

abbrev pub int_add : ℕ → ℕ → ℕ
int_add x y = wrapped (signed_of x +ℤ signed_of y)

-- what one turn does, by computing
turn_runs : (tags : Tags) (names : Names) (defined : List (List ℕ)) (deep : ℕ) (st : State) (x y s k : ℕ) (t : Bool) → int_lt (signed_of x) (signed_of 0) ≡ t
    → p_does product_turn deep nobody (here tags names defined) st (frame true x y s k) ≡ Done Next st (frame true (int_add x x) y (cond t (int_add (int_add s s) y) (int_add s s)) (wrapped (signed_of k -ℤ signed_of 1)))
unfolding p_after p_bind p_give p_stuck p_choose p_given p_outer p_named p_read p_load p_put p_write p_store p_own_value p_assigned p_variable p_used p_unary p_compared p_operated p_combined p_cast p_assignment p_condition p_first p_go_on p_within p_enter p_leave p_returned used give unless of_word word_result on_words sum difference equality order operated
turn_runs tags names defined deep st x y s k true e = rw e refl
turn_runs tags names defined deep st x y s k false e = rw e refl

-- ---- numbers: r is what is left of x, at the scale c, with p * 2 * c = 2^24

pub bound : (p r c : ℕ) → c * (2 * p) ≡ 2 ^ 24 → r < 2 * p → r * c < 2 ^ 24
bound p r c e lt = let le : suc r * c ≤ 2 * p * c = mul-le-mul_right c lt in let some : 0 < c = positive c p e in omega (arith, e, le, some)
  where
    positive : (c p : ℕ) → c * (2 * p) ≡ 2 ^ 24 → 0 < c
    positive zero p e = absurd (omega (arith, e))
    positive (suc c) p e = omega arith

pub high_bit : (p s c : ℕ) → c * (2 * p) ≡ 2 ^ 24 → 2 ^ 23 ≤ (p + s) * c
high_bit p s c e = omega (arith, e)

pub low_bit : (p s c : ℕ) → c * (2 * p) ≡ 2 ^ 24 → s < p → s * c < 2 ^ 23
low_bit p s c e lt = let le : suc s * c ≤ p * c = mul-le-mul_right c lt in let some : 0 < c = positive c p e in omega (arith, e, le, some)
  where
    positive : (c p : ℕ) → c * (2 * p) ≡ 2 ^ 24 → 0 < c
    positive zero p e = absurd (omega (arith, e))
    positive (suc c) p e = omega arith

pub high_rest : (p s c : ℕ) → c * (2 * p) ≡ 2 ^ 24 → s < p → sum_word ((p + s) * c) ((p + s) * c) ≡ s * (2 * c)
high_rest p s c e lt = let le : suc s * c ≤ p * c = mul-le-mul_right c lt in let low : s * c < 2 ^ 23 = low_bit p s c e lt in omega (arith, e, le, low)

pub low_rest : (p s c : ℕ) → c * (2 * p) ≡ 2 ^ 24 → s < p → sum_word (s * c) (s * c) ≡ s * (2 * c)
low_rest p s c e lt = let low : s * c < 2 ^ 23 = low_bit p s c e lt in omega (arith, low)

twice : (x : ℕ) → int_add (x % 2 ^ 24) (x % 2 ^ 24) ≡ (x + x) % 2 ^ 24
twice x = int_sum (x % 2 ^ 24) (x % 2 ^ 24) (omega arith) (omega arith) ∙ omega arith

plus : (x y : ℕ) → y < 2 ^ 24 → int_add (x % 2 ^ 24) y ≡ (x + y) % 2 ^ 24
plus x y lt = int_sum (x % 2 ^ 24) y (omega arith) lt ∙ omega arith

pub less_one : (k : ℕ) → k < 24 → wrapped (signed_of (suc k) -ℤ signed_of 1) ≡ k
less_one k lt = int_difference (suc k) 1 (omega (arith, lt)) (omega arith) ∙ omega (arith, lt)

pub scale : (p c : ℕ) → c * (2 * p) ≡ 2 ^ 24 → 2 * c * p ≡ 2 ^ 24
scale p c e = omega (arith, e)

high_sum : (x p s y : ℕ) → (x + x + y) * p + s * y ≡ x * (2 * p) + (p + s) * y
high_sum x p s y = omega arith

low_sum : (x p s y : ℕ) → (x + x) * p + s * y ≡ x * (2 * p) + s * y
low_sum x p s y = omega arith

-- with k turns left: x is the sum, and r what is left of the first argument at the scale c
record Inv (st0 : State) (spare y all k : ℕ) (st : State) (own : List Object) : Type 0 where
  few : k ≤ 24
  x : ℕ
  r : ℕ
  c : ℕ
  state : st ≡ record st0 { spare = k + spare }
  objects : own ≡ frame true (r * c) y (x % 2 ^ 24) k
  scaled : c * 2 ^ k ≡ 2 ^ 24
  below : r < 2 ^ k
  sum : x * 2 ^ k + r * y ≡ all

module _ (tags : Tags) (names : Names) (defined : List (List ℕ)) (deep : ℕ) (st0 : State) (spare y all : ℕ) (small : y < 2 ^ 24) where
  abbrev test : Part Bool
  test = p_condition (p_value (variable n) nobody (here tags names defined))

  abbrev body : Part Flow
  body = p_does product_turn deep nobody (here tags names defined)

  goes : (st : State) (own : List Object) (k x s : ℕ) → own ≡ frame true x y s (suc k) → test st own ≡ Done true st own
  unfolding p_after p_bind p_give p_choose p_given p_outer p_named p_read p_load p_own_value p_variable p_used p_condition used give
  goes st own k x s e = rw (e, ne_eqb (suc k) 0 (λ z. absurd (omega (arith, z)))) refl

  stays : (st : State) (own : List Object) (x s : ℕ) → own ≡ frame true x y s 0 → test st own ≡ Done false st own
  unfolding p_after p_bind p_give p_choose p_given p_outer p_named p_read p_load p_own_value p_variable p_used p_condition used give
  stays st own x s e = rw e refl

  turned : (k x s x' s' : ℕ) (t : Bool) (st : State) (own : List Object) → own ≡ frame true x y s (suc k) → k < 24 → int_lt (signed_of x) (signed_of 0) ≡ t → int_add x x ≡ x' → cond t (int_add (int_add s s) y) (int_add s s) ≡ s' → body st own ≡ Done Next st (frame true x' y s' k)
  turned k x s x' s' t st own o lt e f g = ap (body st) o ∙ (turn_runs tags names defined deep st x y s (suc k) t e ∙ λ i. Done Next st (frame true (f i) y (g i) (less_one k lt i)))

  step : (k : ℕ) (st : State) (own : List Object) → Inv st0 spare y all (suc k) st own → Turned test body (Inv st0 spare y all k) st own
  step k st own v = ⊎_elim low high (cases_lt v.r (2 ^ k))
    where
      lt : k < 24
      lt = omega (arith, v.few)

      more : 2 ^ suc k ≡ 2 * 2 ^ k
      more = omega (arith, pow-suc 2 k)

      scaled : v.c * (2 * 2 ^ k) ≡ 2 ^ 24
      scaled = ap (λ z. v.c * z) (sym more) ∙ v.scaled

      sum : v.x * (2 * 2 ^ k) + v.r * y ≡ all
      sum = ap (λ z. v.x * z + v.r * y) (sym more) ∙ v.sum

      pays : st.spare ≡ suc (k + spare)
      pays = ap (λ (s : State). s.spare) v.state ∙ omega arith

      same : record st { spare = k + spare } ≡ record st0 { spare = k + spare }
      same = ap (λ (s : State). record s { spare = k + spare }) v.state

      low : v.r < 2 ^ k → Turned test body (Inv st0 spare y all k) st own
      low h = record {
        goes = goes st own k (v.r * v.c) (v.x % 2 ^ 24) v.objects;
        spare = k + spare;
        pays = pays;
        state = record st { spare = k + spare };
        objects = frame true (v.r * (2 * v.c)) y ((v.x + v.x) % 2 ^ 24) k;
        turns = turned k (v.r * v.c) (v.x % 2 ^ 24) (v.r * (2 * v.c)) ((v.x + v.x) % 2 ^ 24) false (record st { spare = k + spare }) own v.objects lt (is_below_zero (v.r * v.c) whole ∙ lt-leb (2 ^ 23) (v.r * v.c) (low_bit (2 ^ k) v.r v.c scaled h)) (int_sum (v.r * v.c) (v.r * v.c) whole whole ∙ low_rest (2 ^ k) v.r v.c scaled h) (twice v.x);
        next = record { few = omega (arith, lt); x = v.x + v.x; r = v.r; c = 2 * v.c; state = same; objects = refl; scaled = scale (2 ^ k) v.c scaled; below = h; sum = low_sum v.x (2 ^ k) v.r y ∙ sum };
      }
        where
          whole : v.r * v.c < 2 ^ 24
          whole = let low : v.r * v.c < 2 ^ 23 = low_bit (2 ^ k) v.r v.c scaled h in omega (arith, low)

      high : 2 ^ k ≤ v.r → Turned test body (Inv st0 spare y all k) st own
      high h = record {
        goes = goes st own k (v.r * v.c) (v.x % 2 ^ 24) v.objects;
        spare = k + spare;
        pays = pays;
        state = record st { spare = k + spare };
        objects = frame true (s * (2 * v.c)) y ((v.x + v.x + y) % 2 ^ 24) k;
        turns = turned k ((2 ^ k + s) * v.c) (v.x % 2 ^ 24) (s * (2 * v.c)) ((v.x + v.x + y) % 2 ^ 24) true (record st { spare = k + spare }) own (subst (λ z. own ≡ frame true (z * v.c) y (v.x % 2 ^ 24) (suc k)) rest v.objects) lt (is_below_zero ((2 ^ k + s) * v.c) whole ∙ le-leb (2 ^ 23) ((2 ^ k + s) * v.c) (high_bit (2 ^ k) s v.c scaled)) (int_sum ((2 ^ k + s) * v.c) ((2 ^ k + s) * v.c) whole whole ∙ high_rest (2 ^ k) s v.c scaled few) (ap (λ z. int_add z y) (twice v.x) ∙ plus (v.x + v.x) y small);
        next = record { few = omega (arith, lt); x = v.x + v.x + y; r = s; c = 2 * v.c; state = same; objects = refl; scaled = scale (2 ^ k) v.c scaled; below = few; sum = high_sum v.x (2 ^ k) s y ∙ (ap (λ z. v.x * (2 * 2 ^ k) + z * y) (sym rest) ∙ sum) };
      }
        where
          s : ℕ
          s = v.r - 2 ^ k

          rest : v.r ≡ 2 ^ k + s
          rest = omega (arith, h)

          few : s < 2 ^ k
          few = omega (arith, h, v.below, more)

          whole : (2 ^ k + s) * v.c < 2 ^ 24
          whole = bound (2 ^ k) (2 ^ k + s) v.c scaled (omega (arith, few))

  done : (st : State) (own : List Object) → Inv st0 spare y all 0 st own → test st own ≡ Done false st own
  done st own v = stays st own (v.r * v.c) (v.x % 2 ^ 24) v.objects

  loop_runs : (d : ℕ) (st : State) (own : List Object) → 24 < d → Inv st0 spare y all 24 st own → LoopEnded d test body (Inv st0 spare y all 0) st own
  loop_runs d st own lt v = loop_ends test body (Inv st0 spare y all) step done 24 d st own lt v

  -- at the end the sum is all there is
  last : (st : State) (own : List Object) (v : Inv st0 spare y all 0 st own) → Done Next st own ≡ Done Next (record st0 { spare = spare }) (frame true (v.r * v.c) y (all % 2 ^ 24) 0)
  last st own v = λ i. Done Next ((v.state ∙ ap (λ z. record st0 { spare = z }) none_left) i) ((v.objects ∙ ap (λ z. frame true (v.r * v.c) y (z % 2 ^ 24) 0) whole) i)
    where
      none_left : 0 + spare ≡ spare
      none_left = omega arith

      none : v.r ≡ 0
      none = omega (arith, v.below)

      whole : v.x ≡ all
      whole = omega (arith, v.sum, ap (λ z. z * y) none)

-- the whole function, from two words, with 24 units and more
pub product_runs : (tags : Tags) (names : Names) (defined : List (List ℕ)) (deep spare x y : ℕ) (st : State) → 24 < deep → x < 2 ^ 24 → y < 2 ^ 24
    → (own : List Object) × (p_function (product_definition tags names defined) deep nobody (Word x ∷ Word y ∷ []) (record st { spare = 24 + spare }) [] ≡ Done (Word (x * y % 2 ^ 24)) (record st { spare = spare }) own)
unfolding p_after p_bind p_give p_stuck p_choose p_given p_outer p_named p_read p_load p_put p_write p_store p_own_value p_assigned p_variable p_used p_condition p_first p_go_on p_within p_enter p_leave p_returned p_result p_function used give
product_runs tags names defined deep spare x y st lt sx sy = (frame false (l.last.r * l.last.c) y (x * y % 2 ^ 24) 0, rw (l.ends ∙ last tags names defined deep st spare y (x * y) sy l.state l.objects l.last) refl)
  where
    first : Inv st spare y (x * y) 24 (record st { spare = 24 + spare }) (frame true x y 0 24)
    first = record { few = omega arith; x = 0; r = x; c = 1; state = refl; objects = ap (λ z. frame true z y 0 24) (omega arith); scaled = refl; below = sx; sum = omega arith }

    l : LoopEnded deep (p_condition (p_value (variable n) nobody (here tags names defined))) (p_does product_turn deep nobody (here tags names defined)) (Inv st spare y (x * y) 0) (record st { spare = 24 + spare }) (frame true x y 0 24)
    l = loop_runs tags names defined deep st spare y (x * y) sy deep (record st { spare = 24 + spare }) (frame true x y 0 24) lt first
