-- The helper functions of bits compute them.
use Rattle.std.proofs.Common.{◌≡◌, ⊎_elim, ℕ, zero, suc, ◌+◌, ◌-◌, ◌*◌, ◌^◌, ◌<◌, ◌≤◌, List, [], ◌∷◌, Bool, true, false, cond, refl, sym, ap, ap₂, ◌∙◌, subst, arith, pow-suc}
use Rattle.std.specs.Prelude.{◌&&◌, ◌||◌, ◌-ℤ◌, int_lt, bit_and, bit_or, bit_xor}
use Rattle.std.proofs.lemmas.Bool.{cases_lt, le-leb, lt-leb, ne_eqb}
use Rattle.std.proofs.lemmas.Nat.{and_block, or_block, xor_block}
use Rattle.word24.specs.Word.{sum_word, signed_of}
use Rattle.c_syntax.specs.Plain.{CStmt}
use Rattle.c_types.specs.Types as type
use Rattle.c_types.specs.Types.{Tags}
use Rattle.c_types.specs.Constants.{wrapped}
use Rattle.c_types.specs.Scope.{Names}
use Rattle.c_eval.specs.State.{Word, Object, State}
use Rattle.c_eval.specs.Run.{unless, give}
use Rattle.c_eval.specs.Operators.{used, of_word, word_result, on_words, sum, difference, equality, order, operated}
use Rattle.c_eval.specs.Eval.{Flow, Next}
use Rattle.c_helpers.specs.Terms.{variable}
use Rattle.c_helpers.specs.Functions.{Helper, a, b, n, bits_turn, is_negative, bits_and, bits_or, bits_xor}
use Rattle.c_helpers.specs.Terms.{operation}
use Rattle.c_syntax.specs.declared.tree.BinOp.TheVariants as binary
use Rattle.c_apart.proofs.Apart.{Done, Part, nobody, p_after, p_bind, p_give, p_stuck, p_choose, p_given, p_outer, p_named, p_read, p_load, p_put, p_write, p_store, p_own_value, p_assigned, p_variable, p_used, p_unary, p_compared, p_operated, p_combined, p_cast, p_assignment, p_condition, p_first, p_go_on, p_within, p_enter, p_leave, p_returned, p_value, p_does, p_result, p_function}
use Rattle.c_apart.proofs.Turns.{Turned, LoopEnded, loop_ends}
use Rattle.c_apart.proofs.Words.{int_sum, is_below_zero}
use Rattle.c_products.specs.Found.{binary_definition}
use Rattle.c_products.proofs.Product.{frame, here, int_add, less_one, bound, high_bit, low_bit, high_rest, low_rest, scale}

-- a bit as a number
abbrev pub bit : Bool → ℕ
bit t = cond t 1 0

-- what a turn does, the bit that comes in being one of the two that go out
abbrev TurnRuns : CStmt → (Bool → Bool → Bool) → Type 0
TurnRuns turn g =
    (tags : Tags) (names : Names) (defined : List (List ℕ)) (deep : ℕ) (st : State) (x y z k : ℕ) (t u : Bool) → int_lt (signed_of x) (signed_of 0) ≡ t → int_lt (signed_of y) (signed_of 0) ≡ u
    → p_does turn deep nobody (here tags names defined) st (frame true x y z k) ≡ Done Next st (frame true (int_add x x) (int_add y y) (cond (g t u) (int_add (int_add z z) 1) (int_add z z)) (wrapped (signed_of k -ℤ signed_of 1)))

abbrev and_turn : CStmt
and_turn = bits_turn (operation binary.And (is_negative (variable a)) (is_negative (variable b)))

abbrev or_turn : CStmt
or_turn = bits_turn (operation binary.Or (is_negative (variable a)) (is_negative (variable b)))

abbrev xor_turn : CStmt
xor_turn = bits_turn (operation binary.Ne (is_negative (variable a)) (is_negative (variable b)))

-- one bit or the other, and not both
abbrev differ : Bool → Bool → Bool
differ true true = false
differ true false = true
differ false true = true
differ false false = false

and_runs : TurnRuns and_turn (λ t u. t && u)
unfolding p_after p_bind p_give p_stuck p_choose p_given p_outer p_named p_read p_load p_put p_write p_store p_own_value p_assigned p_variable p_used p_unary p_compared p_operated p_combined p_cast p_assignment p_condition p_first p_go_on p_within p_enter p_leave p_returned used give unless of_word word_result on_words sum difference equality order operated
and_runs tags names defined deep st x y z k true true e f = rw (e, f) refl
and_runs tags names defined deep st x y z k true false e f = rw (e, f) refl
and_runs tags names defined deep st x y z k false true e f = rw e refl
and_runs tags names defined deep st x y z k false false e f = rw e refl

or_runs : TurnRuns or_turn (λ t u. t || u)
unfolding p_after p_bind p_give p_stuck p_choose p_given p_outer p_named p_read p_load p_put p_write p_store p_own_value p_assigned p_variable p_used p_unary p_compared p_operated p_combined p_cast p_assignment p_condition p_first p_go_on p_within p_enter p_leave p_returned used give unless of_word word_result on_words sum difference equality order operated
or_runs tags names defined deep st x y z k true true e f = rw e refl
or_runs tags names defined deep st x y z k true false e f = rw e refl
or_runs tags names defined deep st x y z k false true e f = rw (e, f) refl
or_runs tags names defined deep st x y z k false false e f = rw (e, f) refl

xor_runs : TurnRuns xor_turn differ
unfolding p_after p_bind p_give p_stuck p_choose p_given p_outer p_named p_read p_load p_put p_write p_store p_own_value p_assigned p_variable p_used p_unary p_compared p_operated p_combined p_cast p_assignment p_condition p_first p_go_on p_within p_enter p_leave p_returned used give unless of_word word_result on_words sum difference equality order operated
xor_runs tags names defined deep st x y z k true true e f = rw (e, f) refl
xor_runs tags names defined deep st x y z k true false e f = rw (e, f) refl
xor_runs tags names defined deep st x y z k false true e f = rw (e, f) refl
xor_runs tags names defined deep st x y z k false false e f = rw (e, f) refl

-- ---- the loop, for an operation on numbers that works bit by bit

double : (z c p : ℕ) → z < c → c * (2 * p) ≡ 2 ^ 24 → 0 < p → int_add z z ≡ 2 * z
double z c p lt e some = let few : z < 2 ^ 23 = small z c p lt e some in int_sum z z (omega (arith, few)) (omega (arith, few)) ∙ omega (arith, few)
  where
    small : (z c p : ℕ) → z < c → c * (2 * p) ≡ 2 ^ 24 → 0 < p → z < 2 ^ 23
    small z c zero lt e some = absurd (omega (arith, some))
    small z c (suc p) lt e some = omega (arith, lt, e)

raise : (z c p : ℕ) → z < c → c * (2 * p) ≡ 2 ^ 24 → 0 < p → int_add (2 * z) 1 ≡ 2 * z + 1
raise z c zero lt e some = absurd (omega (arith, some))
raise z c (suc p) lt e some = int_sum (2 * z) 1 (omega (arith, lt, e)) (omega arith) ∙ omega (arith, lt, e)

module _ (turn : CStmt) (g : Bool → Bool → Bool) (F : ℕ → ℕ → ℕ) (runs : TurnRuns turn g)
    (block : (k t u s w : ℕ) → s < 2 ^ k → w < 2 ^ k → F (t * 2 ^ k + s) (u * 2 ^ k + w) ≡ F t u * 2 ^ k + F s w) (digit : (t u : Bool) → F (bit t) (bit u) ≡ bit (g t u)) where
  record Inv (st0 : State) (spare all k : ℕ) (st : State) (own : List Object) : Type 0 where
    few : k ≤ 24
    s : ℕ
    w : ℕ
    z : ℕ
    c : ℕ
    state : st ≡ record st0 { spare = k + spare }
    objects : own ≡ frame true (s * c) (w * c) z k
    scaled : c * 2 ^ k ≡ 2 ^ 24
    first : s < 2 ^ k
    second : w < 2 ^ k
    small : z < c
    sum : z * 2 ^ k + F s w ≡ all

  -- the highest bit of what is left, and the rest
  record Cut (p c s : ℕ) : Type 0 where
    t : Bool
    rest : ℕ
    is : s ≡ bit t * p + rest
    below : rest < p
    sign : int_lt (signed_of (s * c)) (signed_of 0) ≡ t
    doubles : int_add (s * c) (s * c) ≡ rest * (2 * c)

  cut : (p c s : ℕ) → c * (2 * p) ≡ 2 ^ 24 → s < 2 * p → Cut p c s
  cut p c s e lt = ⊎_elim low high (cases_lt s p)
    where
      whole : s * c < 2 ^ 24
      whole = bound p s c e lt

      low : s < p → Cut p c s
      low h = record { t = false; rest = s; is = omega arith; below = h; sign = is_below_zero (s * c) whole ∙ lt-leb (2 ^ 23) (s * c) (low_bit p s c e h); doubles = int_sum (s * c) (s * c) whole whole ∙ low_rest p s c e h }

      high : p ≤ s → Cut p c s
      high h = record {
        t = true;
        rest = s - p;
        is = omega (arith, h);
        below = omega (arith, h, lt);
        sign = is_below_zero (s * c) whole ∙ le-leb (2 ^ 23) (s * c) (subst (λ v. 2 ^ 23 ≤ v * c) (sym parts) (high_bit p (s - p) c e));
        doubles = int_sum (s * c) (s * c) whole whole ∙ (ap (λ v. sum_word (v * c) (v * c)) parts ∙ high_rest p (s - p) c e (omega (arith, h, lt)));
      }
        where
          parts : s ≡ p + (s - p)
          parts = omega (arith, h)

  module _ (tags : Tags) (names : Names) (defined : List (List ℕ)) (deep : ℕ) (st0 : State) (spare all : ℕ) where
    abbrev test : Part Bool
    test = p_condition (p_value (variable n) nobody (here tags names defined))

    abbrev body : Part Flow
    body = p_does turn deep nobody (here tags names defined)

    goes : (st : State) (own : List Object) (k x y z : ℕ) → own ≡ frame true x y z (suc k) → test st own ≡ Done true st own
    unfolding p_after p_bind p_give p_choose p_given p_outer p_named p_read p_load p_own_value p_variable p_used p_condition used give
    goes st own k x y z e = rw (e, ne_eqb (suc k) 0 (λ v. absurd (omega (arith, v)))) refl

    stays : (st : State) (own : List Object) (x y z : ℕ) → own ≡ frame true x y z 0 → test st own ≡ Done false st own
    unfolding p_after p_bind p_give p_choose p_given p_outer p_named p_read p_load p_own_value p_variable p_used p_condition used give
    stays st own x y z e = rw e refl

    step : (k : ℕ) (st : State) (own : List Object) → Inv st0 spare all (suc k) st own → Turned test body (Inv st0 spare all k) st own
    step k st own v = record {
      goes = goes st own k (v.s * v.c) (v.w * v.c) v.z v.objects;
      spare = k + spare;
      pays = pays;
      state = record st { spare = k + spare };
      objects = frame true (f.rest * (2 * v.c)) (l.rest * (2 * v.c)) (2 * v.z + bit (g f.t l.t)) k;
      turns = ap (body (record st { spare = k + spare })) v.objects ∙ (runs tags names defined deep (record st { spare = k + spare }) (v.s * v.c) (v.w * v.c) v.z (suc k) f.t l.t f.sign l.sign ∙ λ i. Done Next (record st { spare = k + spare }) (frame true (f.doubles i) (l.doubles i) (came (g f.t l.t) i) (less_one k lt i)));
      next = record { few = omega (arith, lt); s = f.rest; w = l.rest; z = 2 * v.z + bit (g f.t l.t); c = 2 * v.c; state = same; objects = refl; scaled = scale (2 ^ k) v.c scaled; first = f.below; second = l.below; small = grows (g f.t l.t); sum = sum };
    }
      where
        lt : k < 24
        lt = omega (arith, v.few)

        more : 2 ^ suc k ≡ 2 * 2 ^ k
        more = omega (arith, pow-suc 2 k)

        some : 0 < 2 ^ k
        some = omega (arith, v.first, more)

        scaled : v.c * (2 * 2 ^ k) ≡ 2 ^ 24
        scaled = ap (λ z. v.c * z) (sym more) ∙ v.scaled

        f : Cut (2 ^ k) v.c v.s
        f = cut (2 ^ k) v.c v.s scaled (omega (arith, v.first, more))

        l : Cut (2 ^ k) v.c v.w
        l = cut (2 ^ k) v.c v.w scaled (omega (arith, v.second, more))

        pays : st.spare ≡ suc (k + spare)
        pays = ap (λ (s : State). s.spare) v.state ∙ omega arith

        same : record st { spare = k + spare } ≡ record st0 { spare = k + spare }
        same = ap (λ (s : State). record s { spare = k + spare }) v.state

        came : (d : Bool) → cond d (int_add (int_add v.z v.z) 1) (int_add v.z v.z) ≡ 2 * v.z + bit d
        came true = ap (λ m. int_add m 1) (double v.z v.c (2 ^ k) v.small scaled some) ∙ raise v.z v.c (2 ^ k) v.small scaled some
        came false = double v.z v.c (2 ^ k) v.small scaled some ∙ omega arith

        grows : (d : Bool) → 2 * v.z + bit d < 2 * v.c
        grows true = omega (arith, v.small)
        grows false = omega (arith, v.small)

        digits : F v.s v.w ≡ bit (g f.t l.t) * 2 ^ k + F f.rest l.rest
        digits = ap₂ F f.is l.is ∙ (block k (bit f.t) (bit l.t) f.rest l.rest f.below l.below ∙ ap (λ d. d * 2 ^ k + F f.rest l.rest) (digit f.t l.t))

        sum : (2 * v.z + bit (g f.t l.t)) * 2 ^ k + F f.rest l.rest ≡ all
        sum = gathered v.z (bit (g f.t l.t)) (2 ^ k) (F f.rest l.rest) ∙ (ap (λ m. v.z * (2 * 2 ^ k) + m) (sym digits) ∙ (ap (λ m. v.z * m + F v.s v.w) (sym more) ∙ v.sum))
          where
            gathered : (z d p m : ℕ) → (2 * z + d) * p + m ≡ z * (2 * p) + (d * p + m)
            gathered z d p m = omega arith

    done : (st : State) (own : List Object) → Inv st0 spare all 0 st own → test st own ≡ Done false st own
    done st own v = stays st own (v.s * v.c) (v.w * v.c) v.z v.objects

    none : F 0 0 ≡ 0
    none = go (F 0 0) (block 0 0 0 0 0 (omega arith) (omega arith))
      where
        go : (m : ℕ) → m ≡ m * 2 ^ 0 + m → m ≡ 0
        go m e = omega (arith, e)

    last : (st : State) (own : List Object) (v : Inv st0 spare all 0 st own) → Done Next st own ≡ Done Next (record st0 { spare = spare }) (frame true (v.s * v.c) (v.w * v.c) all 0)
    last st own v = λ i. Done Next ((v.state ∙ ap (λ z. record st0 { spare = z }) none_left) i) ((v.objects ∙ ap (λ z. frame true (v.s * v.c) (v.w * v.c) z 0) whole) i)
      where
        none_left : 0 + spare ≡ spare
        none_left = omega arith

        empty : F v.s v.w ≡ 0
        empty = ap₂ F (zero_is v.s v.first) (zero_is v.w v.second) ∙ none
          where
            zero_is : (m : ℕ) → m < 2 ^ 0 → m ≡ 0
            zero_is m lt = omega (arith, lt)

        whole : v.z ≡ all
        whole = omega (arith, v.sum, empty)

    loop_runs : (d x y : ℕ) (own : List Object) (st : State) → 24 < d → x < 2 ^ 24 → y < 2 ^ 24 → F x y ≡ all → st ≡ record st0 { spare = 24 + spare } → own ≡ frame true x y 0 24 → LoopEnded d test body (Inv st0 spare all 0) st own
    loop_runs d x y own st lt sx sy e se oe = loop_ends test body (Inv st0 spare all) step done 24 d st own lt first
      where
        first : Inv st0 spare all 24 st own
        first = record { few = omega arith; s = x; w = y; z = 0; c = 1; state = se; objects = oe ∙ ap₂ (λ p q. frame true p q 0 24) (omega arith) (omega arith); scaled = refl; first = sx; second = sy; small = omega arith; sum = ap (λ m. 0 * 2 ^ 24 + m) e ∙ omega arith }

-- ---- the whole functions, from two words, with 24 units and more

abbrev pub BitsRun : Helper → (ℕ → ℕ → ℕ) → Type 0
BitsRun helper F =
    (tags : Tags) (names : Names) (defined : List (List ℕ)) (deep spare x y : ℕ) (st : State) → 24 < deep → x < 2 ^ 24 → y < 2 ^ 24
    → (own : List Object) × (p_function (binary_definition type.Int helper tags names defined) deep nobody (Word x ∷ Word y ∷ []) (record st { spare = 24 + spare }) [] ≡ Done (Word (F x y)) (record st { spare = spare }) own)

and_digit : (t u : Bool) → bit_and (bit t) (bit u) ≡ bit (t && u)
and_digit true true = refl
and_digit true false = refl
and_digit false true = refl
and_digit false false = refl

or_digit : (t u : Bool) → bit_or (bit t) (bit u) ≡ bit (t || u)
or_digit true true = refl
or_digit true false = refl
or_digit false true = refl
or_digit false false = refl

xor_digit : (t u : Bool) → bit_xor (bit t) (bit u) ≡ bit (differ t u)
xor_digit true true = refl
xor_digit true false = refl
xor_digit false true = refl
xor_digit false false = refl

pub and_function : BitsRun bits_and bit_and
unfolding p_after p_bind p_give p_stuck p_choose p_given p_outer p_named p_read p_load p_put p_write p_store p_own_value p_assigned p_variable p_used p_condition p_first p_go_on p_within p_enter p_leave p_returned p_result p_function used give
and_function tags names defined deep spare x y st lt sx sy =
    let l = loop_runs and_turn (λ t u. t && u) bit_and and_runs and_block and_digit tags names defined deep st spare (bit_and x y) deep x y (frame true x y 0 24) (record st { spare = 24 + spare }) lt sx sy refl refl refl in
    (frame false (l.last.s * l.last.c) (l.last.w * l.last.c) (bit_and x y) 0, rw (l.ends ∙ last and_turn (λ t u. t && u) bit_and and_runs and_block and_digit tags names defined deep st spare (bit_and x y) l.state l.objects l.last) refl)

pub or_function : BitsRun bits_or bit_or
unfolding p_after p_bind p_give p_stuck p_choose p_given p_outer p_named p_read p_load p_put p_write p_store p_own_value p_assigned p_variable p_used p_condition p_first p_go_on p_within p_enter p_leave p_returned p_result p_function used give
or_function tags names defined deep spare x y st lt sx sy =
    let l = loop_runs or_turn (λ t u. t || u) bit_or or_runs or_block or_digit tags names defined deep st spare (bit_or x y) deep x y (frame true x y 0 24) (record st { spare = 24 + spare }) lt sx sy refl refl refl in
    (frame false (l.last.s * l.last.c) (l.last.w * l.last.c) (bit_or x y) 0, rw (l.ends ∙ last or_turn (λ t u. t || u) bit_or or_runs or_block or_digit tags names defined deep st spare (bit_or x y) l.state l.objects l.last) refl)

pub xor_function : BitsRun bits_xor bit_xor
unfolding p_after p_bind p_give p_stuck p_choose p_given p_outer p_named p_read p_load p_put p_write p_store p_own_value p_assigned p_variable p_used p_condition p_first p_go_on p_within p_enter p_leave p_returned p_result p_function used give
xor_function tags names defined deep spare x y st lt sx sy =
    let l = loop_runs xor_turn differ bit_xor xor_runs xor_block xor_digit tags names defined deep st spare (bit_xor x y) deep x y (frame true x y 0 24) (record st { spare = 24 + spare }) lt sx sy refl refl refl in
    (frame false (l.last.s * l.last.c) (l.last.w * l.last.c) (bit_xor x y) 0, rw (l.ends ∙ last xor_turn differ bit_xor xor_runs xor_block xor_digit tags names defined deep st spare (bit_xor x y) l.state l.objects l.last) refl)
