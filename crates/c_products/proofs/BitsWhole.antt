-- The laws of the crate.
use Rattle.std.proofs.Common.{◌≡◌, ℕ, suc, ◌+◌, ◌-◌, ◌*◌, ◌/◌, ◌%◌, ◌^◌, ◌<◌, ◌≤◌, List, [], ◌∷◌, Bool, true, false, cond, nat_lt, nat_le, refl, sym, ap, ap₂, ◌∙◌, arith}
use Rattle.std.specs.Prelude.{◌&&◌, if◌then◌else◌, pos, bit_and, bit_or, bit_xor}
use Rattle.std.specs.Int.{int_div_euclid}
use Rattle.std.proofs.Math.Nat.{pow-le-pow_right}
use Rattle.std.proofs.lemmas.Bool.{lt-ltb, ltb-true, leb-true, leb-false, and_parts}
use Rattle.word24.specs.Word.{signed_of}
use Rattle.c_syntax.specs.declared.tree.UnOp.TheVariants as unary
use Rattle.c_syntax.specs.declared.tree.BinOp.{BinOp}
use Rattle.c_syntax.specs.declared.tree.BinOp.TheVariants as binary
use Rattle.c_types.specs.Types.{Int, Unsigned}
use Rattle.c_types.specs.Constants as constant
use Rattle.c_types.specs.Constants.{wrapped}
use Rattle.c_eval.specs.State.{Value, Word, Null, Point, Letter, Function, Missing, Act, OtherKind, ShiftCount, Object, State, Gives, Undefined}
use Rattle.c_eval.specs.Run.{give, undefined}
use Rattle.c_eval.specs.Operators.{of_word, word_act, word_result, on_words, on_word}
use Rattle.c_eval.specs.Text.{Text}
use Rattle.c_eval.specs.Helpers.{Helpers, helper_calls}
use Rattle.c_helpers.specs.Functions.{Helper, bits_and, bits_or, bits_xor, shift_left, unsigned_quotient, unsigned_shift_right, int_shift_right, complement}
use Rattle.c_helpers.specs.Meanings.{of_one, counting}
use Rattle.c_apart.proofs.Apart.{Done, Part, nobody, p_function}
use Rattle.c_apart.proofs.Splitting.{stuck_splits}
use Rattle.c_apart.proofs.Uses.{Computes, computes, use_undefined, use_computes}
use Rattle.c_apart.proofs.Words.{is_below_zero}
use Rattle.c_products.specs.Found.{binary_definition, Stands, Knows}
use Rattle.c_products.proofs.Product.{holding}
use Rattle.c_products.proofs.Quotient.{quotient_units}
use Rattle.c_products.proofs.Nested.{OnWords, p_on_words, within_depth, on_words_nested}
use Rattle.c_products.proofs.Computed.{are_words, are_divisible, quotients}
use Rattle.c_products.proofs.Remainder.{p_two, two_nested}
use Rattle.c_products.proofs.IntQuotient.{p_one, one_nested}
use Rattle.c_products.proofs.Helped.{helped_words}
use Rattle.c_products.specs.BitsLaws.{BitsAndIsComputed, BitsOrIsComputed, BitsXorIsComputed, shift_definition, Shifts, ShiftsLeftAreComputed, UnsignedShiftsRightAreComputed, KnowsShift, IntShiftsRightAreComputed, complement_definition, Complements, ComplementsAreComputed}
use Rattle.c_products.proofs.Bits.{BitsRun, and_function, or_function, xor_function}
use Rattle.c_products.proofs.Shifts.{left_runs, right_runs}
use Rattle.c_products.proofs.IntShift.{turned, high_runs, low_runs, complement_runs, turned_is, high_value, low_value}

words_are : (x y : ℕ) → x < 2 ^ 24 → y < 2 ^ 24 → are_words x y ≡ true
words_are x y sx sy = ap₂ (λ a b. a && b) (lt-ltb x (2 ^ 24) sx) (lt-ltb y (2 ^ 24) sy)

-- a word and a count
abbrev pub are_shifted : ℕ → ℕ → Bool
are_shifted x y = nat_lt x (2 ^ 24) && nat_lt y 24

shifted_are : (x y : ℕ) → x < 2 ^ 24 → y < 24 → are_shifted x y ≡ true
shifted_are x y sx few = ap₂ (λ a b. a && b) (lt-ltb x (2 ^ 24) sx) (lt-ltb y 24 few)

-- ---- what the operators do

pub and_gives : (x y : ℕ) → x < 2 ^ 24 → y < 2 ^ 24 → are_words x y ≡ true → (st : State) → on_words binary.BitAnd (counting false) (counting false) (Word x) (Word y) st ≡ Gives (Word (bit_and x y)) st
unfolding on_words of_word word_result give
and_gives x y sx sy ok st = refl

pub or_gives : (x y : ℕ) → x < 2 ^ 24 → y < 2 ^ 24 → are_words x y ≡ true → (st : State) → on_words binary.BitOr (counting false) (counting false) (Word x) (Word y) st ≡ Gives (Word (bit_or x y)) st
unfolding on_words of_word word_result give
or_gives x y sx sy ok st = refl

pub xor_gives : (x y : ℕ) → x < 2 ^ 24 → y < 2 ^ 24 → are_words x y ≡ true → (st : State) → on_words binary.BitXor (counting false) (counting false) (Word x) (Word y) st ≡ Gives (Word (bit_xor x y)) st
unfolding on_words of_word word_result give
xor_gives x y sx sy ok st = refl

pub bits_fail : (op : BinOp) (x y : ℕ) → x < 2 ^ 24 → y < 2 ^ 24 → are_words x y ≡ false → (st : State) → (act : Act) × (on_words op (counting false) (counting false) (Word x) (Word y) st ≡ Undefined act st)
bits_fail op x y sx sy lacks st = absurd (cc (sym (words_are x y sx sy) ∙ lacks))

pub left_gives : (x y : ℕ) → x < 2 ^ 24 → y < 2 ^ 24 → are_shifted x y ≡ true → (st : State) → on_words binary.Shl (counting false) (counting false) (Word x) (Word y) st ≡ Gives (Word (x * 2 ^ y % 2 ^ 24)) st
unfolding on_words of_word word_result give
left_gives x y sx sy ok st = ap (λ b. word_result binary.Shl (if b then constant.Value (wrapped (pos (x * 2 ^ y))) else constant.Undefined 0) st) (and_parts (nat_lt x (2 ^ 24)) (nat_lt y 24) ok).1

right_is : (x p : ℕ) → x < 2 ^ 24 → wrapped (int_div_euclid (pos x) (pos p)) ≡ x / p
right_is x p a = grind (arith, a)

pub right_gives : (x y : ℕ) → x < 2 ^ 24 → y < 2 ^ 24 → are_shifted x y ≡ true → (st : State) → on_words binary.Shr (counting true) (counting true) (Word x) (Word y) st ≡ Gives (Word (x / 2 ^ y)) st
unfolding on_words of_word word_result give
right_gives x y sx sy ok st =
    ap (λ b. word_result binary.Shr (if b then constant.Value (wrapped (int_div_euclid (pos x) (pos (2 ^ y)))) else constant.Undefined 0) st) (and_parts (nat_lt x (2 ^ 24)) (nat_lt y 24) ok).1
    ∙ ap (λ z. Gives (Word z) st) (right_is x (2 ^ y) sx)

many : (x y : ℕ) → x < 2 ^ 24 → are_shifted x y ≡ false → nat_lt y 24 ≡ false
many x y sx e = ap (λ b. b && nat_lt y 24) (sym (lt-ltb x (2 ^ 24) sx)) ∙ e

pub left_fails : (x y : ℕ) → x < 2 ^ 24 → y < 2 ^ 24 → are_shifted x y ≡ false → (st : State) → (act : Act) × (on_words binary.Shl (counting false) (counting false) (Word x) (Word y) st ≡ Undefined act st)
unfolding on_words of_word word_result word_act undefined
left_fails x y sx sy lacks st = (ShiftCount, ap (λ b. word_result binary.Shl (if b then constant.Value (wrapped (pos (x * 2 ^ y))) else constant.Undefined 0) st) (many x y sx lacks))

pub right_fails : (x y : ℕ) → x < 2 ^ 24 → y < 2 ^ 24 → are_shifted x y ≡ false → (st : State) → (act : Act) × (on_words binary.Shr (counting true) (counting true) (Word x) (Word y) st ≡ Undefined act st)
unfolding on_words of_word word_result word_act undefined
right_fails x y sx sy lacks st = (ShiftCount, ap (λ b. word_result binary.Shr (if b then constant.Value (wrapped (int_div_euclid (pos x) (pos (2 ^ y)))) else constant.Undefined 0) st) (many x y sx lacks))

-- ---- the laws

module _ (h : Helpers) (t : Text) (input : List ℕ) where
  pub bits_words : (helper : Helper) (F : ℕ → ℕ → ℕ) → BitsRun helper F → Stands h t Int helper → OnWords h t input helper.name are_words (λ x y. 24) 24 16 F
  bits_words helper F runs s = record {
    computes = λ x y ok. computes h t input helper.name (binary_definition Int helper s.tags s.names s.defined) 24 16 (Word x ∷ Word y ∷ []) (Word (F x y)) s.found s.charge (λ deep. nobody) (λ deep lt n g us. stuck_splits)
        (λ deep k st lt e small. go deep k x y st lt e (and_parts (nat_lt x (2 ^ 24)) (nat_lt y (2 ^ 24)) ok));
    bounded = λ x y. omega arith;
  }
    where
      go : (deep k x y : ℕ) (st : State) → 24 < deep → st.spare ≡ 24 + k → (nat_lt x (2 ^ 24) ≡ true) × (nat_lt y (2 ^ 24) ≡ true)
          → (own : List Object) × (p_function (binary_definition Int helper s.tags s.names s.defined) deep nobody (Word x ∷ Word y ∷ []) (record st { words = st.words + h.charge helper.name }) [] ≡ Done (Word (F x y)) (record st { spare = k; words = st.words + h.charge helper.name }) own)
      go deep k x y st lt e both =
          let r = runs s.tags s.names s.defined deep k x y (record st { words = st.words + h.charge helper.name }) lt (ltb-true x (2 ^ 24) both.0) (ltb-true y (2 ^ 24) both.1) in
          (r.0, ap (λ z. p_function (binary_definition Int helper s.tags s.names s.defined) deep nobody (Word x ∷ Word y ∷ []) (record st { spare = z; words = st.words + h.charge helper.name }) []) e ∙ r.1)

  -- a count that is too large takes no unit, since the operator is undefined
  abbrev pub left_units : ℕ → ℕ
  left_units y = cond (nat_lt y 24) y 0

  pub left_words : Shifts h t Int shift_left → OnWords h t input shift_left.name are_shifted (λ x y. left_units y) 24 16 (λ x y. x * 2 ^ y % 2 ^ 24)
  left_words s = record {
    computes = λ x y ok. computes h t input shift_left.name (shift_definition Int shift_left s.tags s.names s.defined) (left_units y) 16 (Word x ∷ Word y ∷ []) (Word (x * 2 ^ y % 2 ^ 24)) s.found s.charge (λ deep. nobody) (λ deep lt n g us. stuck_splits)
        (λ deep k st lt e small. go deep k x y st lt e (and_parts (nat_lt x (2 ^ 24)) (nat_lt y 24) ok));
    bounded = λ x y. bounded y (nat_lt y 24) refl;
  }
    where
      bounded : (y : ℕ) (b : Bool) → nat_lt y 24 ≡ b → cond b y 0 ≤ 24
      bounded y true e = let few : y < 24 = ltb-true y 24 e in omega (arith, few)
      bounded y false e = omega arith

      go : (deep k x y : ℕ) (st : State) → left_units y < deep → st.spare ≡ left_units y + k → (nat_lt x (2 ^ 24) ≡ true) × (nat_lt y 24 ≡ true)
          → (own : List Object) × (p_function (shift_definition Int shift_left s.tags s.names s.defined) deep nobody (Word x ∷ Word y ∷ []) (record st { words = st.words + h.charge shift_left.name }) [] ≡ Done (Word (x * 2 ^ y % 2 ^ 24)) (record st { spare = k; words = st.words + h.charge shift_left.name }) own)
      go deep k x y st lt e both =
          let units : left_units y ≡ y = ap (λ b. cond b y 0) both.1 in
          let r = left_runs s.tags s.names s.defined deep k x y (record st { words = st.words + h.charge shift_left.name }) (omega (arith, lt, units)) (ltb-true x (2 ^ 24) both.0) (ltb-true y 24 both.1) in
          (r.0, ap (λ z. p_function (shift_definition Int shift_left s.tags s.names s.defined) deep nobody (Word x ∷ Word y ∷ []) (record st { spare = z; words = st.words + h.charge shift_left.name }) []) (e ∙ ap (λ z. z + k) units) ∙ r.1)

  -- the power as the function has it
  abbrev power : ℕ → ℕ
  power y = 1 * 2 ^ y % 2 ^ 24

  power_is : (y : ℕ) → y < 24 → power y ≡ 2 ^ y
  power_is y few = let le : 2 ^ y ≤ 2 ^ 23 = pow-le-pow_right {n = 2} (omega arith) {i = y} {j = 23} (omega (arith, few)) in omega (arith, le)

  abbrev pub right_units : ℕ → ℕ
  right_units y = suc (left_units y) + suc (quotient_units (power y))

  abbrev right_calls : ℕ → List ℕ → List Value → Part Value
  right_calls deep = p_two shift_left.name (p_on_words (within_depth are_shifted (λ x y. left_units y) deep) (λ x y. left_units y) 16 (λ x y. x * 2 ^ y % 2 ^ 24)) unsigned_quotient.name (p_on_words (within_depth are_divisible (λ x y. quotient_units y) deep) (λ x y. quotient_units y) 16 (λ x y. x / y))

  quotient_words : Stands h t Unsigned unsigned_quotient → OnWords h t input unsigned_quotient.name are_divisible (λ x y. quotient_units y) 24 16 (λ x y. x / y)
  quotient_words s = quotients h t input s.tags s.names s.defined 16 s.found s.charge

  pub right_words : Shifts h t Int shift_left → Stands h t Unsigned unsigned_quotient → (own : Shifts h t Unsigned unsigned_shift_right) → Knows own.names Int shift_left → Knows own.names Unsigned unsigned_quotient
      → OnWords h t input unsigned_shift_right.name are_shifted (λ x y. right_units y) 50 32 (λ x y. x / 2 ^ y)
  right_words sl sq own kl kq = record {
    computes = λ x y ok. computes h t input unsigned_shift_right.name (shift_definition Unsigned unsigned_shift_right own.tags own.names own.defined) (right_units y) 32 (Word x ∷ Word y ∷ []) (Word (x / 2 ^ y)) own.found (omega (arith, own.charge)) right_calls
        (λ deep lt n g us. two_nested n shift_left.name unsigned_quotient.name _ _ (helper_calls deep h t input) (on_words_nested h t input shift_left.name are_shifted (λ x y. left_units y) 24 16 (λ x y. x * 2 ^ y % 2 ^ 24) (left_words sl) sl.unknown deep n) (on_words_nested h t input unsigned_quotient.name are_divisible (λ x y. quotient_units y) 24 16 (λ x y. x / y) (quotient_words sq) sq.unknown deep n) g us)
        (λ deep k st lt e small. go deep k x y st lt e small (and_parts (nat_lt x (2 ^ 24)) (nat_lt y 24) ok));
    bounded = λ x y. let one : left_units y ≤ 24 = (left_words sl).bounded 0 y in let two : quotient_units (power y) ≤ 24 = (quotient_words sq).bounded 0 (power y) in omega (arith, one, two);
  }
    where
      go : (deep k x y : ℕ) (st : State) → right_units y < deep → st.spare ≡ right_units y + k → st.words + 32 ≤ 1024 → (nat_lt x (2 ^ 24) ≡ true) × (nat_lt y 24 ≡ true)
          → (objects : List Object) × (p_function (shift_definition Unsigned unsigned_shift_right own.tags own.names own.defined) deep (right_calls deep) (Word x ∷ Word y ∷ []) (record st { words = st.words + h.charge unsigned_shift_right.name }) [] ≡ Done (Word (x / 2 ^ y)) (record st { spare = k; words = st.words + h.charge unsigned_shift_right.name }) objects)
      go deep k x y st lt e small both =
          let sx : x < 2 ^ 24 = ltb-true x (2 ^ 24) both.0 in
          let few : y < 24 = ltb-true y 24 both.1 in
          let is : power y ≡ 2 ^ y = power_is y few in
          let some : 1 ≤ 2 ^ y = pow-le-pow_right {n = 2} (omega arith) {i = 0} {j = y} (omega arith) in
          let left : st.spare - suc (left_units y) - suc (quotient_units (power y)) ≡ k = omega (arith, e) in (
            holding false x ∷ holding false y ∷ holding false (power y) ∷ [],
            right_runs own.tags own.names own.defined deep x y 16 (within_depth are_shifted (λ x y. left_units y) deep) (within_depth are_divisible (λ x y. quotient_units y) deep) (λ x y. left_units y) (λ x y. quotient_units y) (record st { words = st.words + h.charge unsigned_shift_right.name }) kl.0 kq.0 kl.1 kq.1
                (ap₂ (λ a b. a && b) (shifted_are 1 y (omega arith) few) (lt-ltb (suc (left_units y)) deep (omega (arith, lt))))
                (ap₂ (λ a b. a && b) (ap₂ (λ a b. a && b) (words_are x (power y) sx (omega arith)) (lt-ltb 0 (power y) (omega (arith, is, some)))) (lt-ltb (suc (quotient_units (power y))) deep (omega (arith, lt))))
                (omega (arith, e)) (omega (arith, e)) (omega (arith, small, own.charge))
                ∙ λ i. Done (Word (x / is i)) (record st { spare = left i; words = st.words + h.charge unsigned_shift_right.name }) (holding false x ∷ holding false y ∷ holding false (power y) ∷ []),
          )

  abbrev pub int_right_units : ℕ → ℕ
  int_right_units y = suc (right_units y)

  abbrev int_right_calls : ℕ → List ℕ → List Value → Part Value
  int_right_calls deep = p_one unsigned_shift_right.name (p_on_words (within_depth are_shifted (λ x y. right_units y) deep) (λ x y. right_units y) 32 (λ x y. x / 2 ^ y))

  -- what a shift of an int comes to
  abbrev shifted_int : ℕ → ℕ → ℕ
  shifted_int x y = wrapped (int_div_euclid (signed_of x) (pos (2 ^ y)))

  small_quotient : (x y : ℕ) → x < 2 ^ 24 → x / y < 2 ^ 24
  small_quotient x y a = grind (arith, a)

  pub int_right_words : Shifts h t Int shift_left → Stands h t Unsigned unsigned_quotient → (d : Shifts h t Unsigned unsigned_shift_right) → Knows d.names Int shift_left → Knows d.names Unsigned unsigned_quotient → (own : Shifts h t Int int_shift_right) → KnowsShift own.names Unsigned unsigned_shift_right
      → OnWords h t input int_shift_right.name are_shifted (λ x y. int_right_units y) 51 48 shifted_int
  int_right_words sl sq d kl kq own kr = record {
    computes = λ x y ok. computes h t input int_shift_right.name (shift_definition Int int_shift_right own.tags own.names own.defined) (int_right_units y) 48 (Word x ∷ Word y ∷ []) (Word (shifted_int x y)) own.found (omega (arith, own.charge)) int_right_calls
        (λ deep lt n g us. one_nested n unsigned_shift_right.name _ (helper_calls deep h t input) (on_words_nested h t input unsigned_shift_right.name are_shifted (λ x y. right_units y) 50 32 (λ x y. x / 2 ^ y) (right_words sl sq d kl kq) d.unknown deep n) g us)
        (λ deep k st lt e small. go deep k x y st lt e small (and_parts (nat_lt x (2 ^ 24)) (nat_lt y 24) ok) (nat_le (2 ^ 23) x) refl);
    bounded = λ x y. let le : right_units y ≤ 50 = (right_words sl sq d kl kq).bounded 0 y in omega (arith, le);
  }
    where
      go : (deep k x y : ℕ) (st : State) → int_right_units y < deep → st.spare ≡ int_right_units y + k → st.words + 48 ≤ 1024 → (nat_lt x (2 ^ 24) ≡ true) × (nat_lt y 24 ≡ true) → (b : Bool) → nat_le (2 ^ 23) x ≡ b
          → (objects : List Object) × (p_function (shift_definition Int int_shift_right own.tags own.names own.defined) deep (int_right_calls deep) (Word x ∷ Word y ∷ []) (record st { words = st.words + h.charge int_shift_right.name }) [] ≡ Done (Word (shifted_int x y)) (record st { spare = k; words = st.words + h.charge int_shift_right.name }) objects)
      go deep k x y st lt e small both true b =
          let sx : x < 2 ^ 24 = ltb-true x (2 ^ 24) both.0 in
          let few : y < 24 = ltb-true y 24 both.1 in
          let high : 2 ^ 23 ≤ x = leb-true (2 ^ 23) x b in
          let some : 1 ≤ 2 ^ y = pow-le-pow_right {n = 2} (omega arith) {i = 0} {j = y} (omega arith) in
          let is : turned x ≡ 2 ^ 24 - 1 - x = turned_is x sx in
          let less : 2 ^ 24 - 1 - x < 2 ^ 24 = omega arith in
          let value : turned (turned x / 2 ^ y) ≡ shifted_int x y = ap (λ z. turned (z / 2 ^ y)) is ∙ (turned_is ((2 ^ 24 - 1 - x) / 2 ^ y) (small_quotient (2 ^ 24 - 1 - x) (2 ^ y) less) ∙ sym (high_value x (2 ^ y) high sx some)) in
          let left : st.spare - suc (right_units y) ≡ k = omega (arith, e) in (
            holding false x ∷ holding false y ∷ holding false (turned x / 2 ^ y) ∷ [],
            high_runs own.tags own.names own.defined deep x y 32 (within_depth are_shifted (λ x y. right_units y) deep) (λ x y. right_units y) (record st { words = st.words + h.charge int_shift_right.name }) kr.0 (is_below_zero x sx ∙ b) kr.1
                (ap₂ (λ a b. a && b) (shifted_are (turned x) y (omega (arith, is)) few) (lt-ltb (suc (right_units y)) deep lt)) (omega (arith, e)) (omega (arith, small, own.charge))
                ∙ λ i. Done (Word (value i)) (record st { spare = left i; words = st.words + h.charge int_shift_right.name }) (holding false x ∷ holding false y ∷ holding false (turned x / 2 ^ y) ∷ []),
          )
      go deep k x y st lt e small both false b =
          let sx : x < 2 ^ 24 = ltb-true x (2 ^ 24) both.0 in
          let few : y < 24 = ltb-true y 24 both.1 in
          let value : x / 2 ^ y ≡ shifted_int x y = sym (low_value x (2 ^ y) (leb-false (2 ^ 23) x b)) in
          let left : st.spare - suc (right_units y) ≡ k = omega (arith, e) in (
            holding false x ∷ holding false y ∷ [],
            low_runs own.tags own.names own.defined deep x y 32 (within_depth are_shifted (λ x y. right_units y) deep) (λ x y. right_units y) (record st { words = st.words + h.charge int_shift_right.name }) kr.0 (is_below_zero x sx ∙ b) kr.1
                (ap₂ (λ a b. a && b) (shifted_are x y sx few) (lt-ltb (suc (right_units y)) deep lt)) (omega (arith, e)) (omega (arith, small, own.charge))
                ∙ λ i. Done (Word (value i)) (record st { spare = left i; words = st.words + h.charge int_shift_right.name }) (holding false x ∷ holding false y ∷ []),
          )

  complement_computes : Complements h t → (x : ℕ) → x < 2 ^ 24 → Computes h t input complement.name 0 16 (Word x ∷ []) (Word (2 ^ 24 - 1 - x))
  complement_computes s x sx = computes h t input complement.name (complement_definition s.tags s.names s.defined) 0 16 (Word x ∷ []) (Word (2 ^ 24 - 1 - x)) s.found s.charge (λ deep. nobody) (λ deep lt n g us. stuck_splits) go
    where
      go : (deep k : ℕ) (st : State) → 0 < deep → st.spare ≡ 0 + k → st.words + 16 ≤ 1024 → (own : List Object) × (p_function (complement_definition s.tags s.names s.defined) deep nobody (Word x ∷ []) (record st { words = st.words + h.charge complement.name }) [] ≡ Done (Word (2 ^ 24 - 1 - x)) (record st { spare = k; words = st.words + h.charge complement.name }) own)
      go deep k st lt e small =
          let left : st.spare ≡ k = omega (arith, e) in
          (holding false x ∷ [], complement_runs s.tags s.names s.defined deep x (record st { words = st.words + h.charge complement.name }) ∙ λ i. Done (Word (turned_is x sx i)) (record st { spare = left i; words = st.words + h.charge complement.name }) (holding false x ∷ []))

pub int_right_gives : (x y : ℕ) → x < 2 ^ 24 → y < 2 ^ 24 → are_shifted x y ≡ true → (st : State) → on_words binary.Shr (counting false) (counting false) (Word x) (Word y) st ≡ Gives (Word (wrapped (int_div_euclid (signed_of x) (pos (2 ^ y))))) st
unfolding on_words of_word word_result give
int_right_gives x y sx sy ok st = ap (λ b. word_result binary.Shr (if b then constant.Value (wrapped (int_div_euclid (signed_of x) (pos (2 ^ y)))) else constant.Undefined 0) st) (and_parts (nat_lt x (2 ^ 24)) (nat_lt y 24) ok).1

pub int_right_fails : (x y : ℕ) → x < 2 ^ 24 → y < 2 ^ 24 → are_shifted x y ≡ false → (st : State) → (act : Act) × (on_words binary.Shr (counting false) (counting false) (Word x) (Word y) st ≡ Undefined act st)
unfolding on_words of_word word_result word_act undefined
int_right_fails x y sx sy lacks st = (ShiftCount, ap (λ b. word_result binary.Shr (if b then constant.Value (wrapped (int_div_euclid (signed_of x) (pos (2 ^ y)))) else constant.Undefined 0) st) (many x y sx lacks))

pub int_right_law : IntShiftsRightAreComputed
int_right_law h t enough sl sq d kl kq own kr input vs st w = helped_words h t input int_shift_right.name are_shifted (λ x y. int_right_units h t input y) 51 48 (λ x y. wrapped (int_div_euclid (signed_of x) (pos (2 ^ y)))) (int_right_words h t input sl sq d kl kq own kr) (omega (arith, enough)) (omega arith) binary.Shr false int_right_gives int_right_fails vs st w

pub complements_law : ComplementsAreComputed
unfolding of_one on_word of_word word_result give undefined
complements_law h t enough s input [] st w = use_undefined h t input complement.name [] (of_one (on_word unary.Invert)) st st OtherKind refl
complements_law h t enough s input (v ∷ y ∷ vs) st w = use_undefined h t input complement.name (v ∷ y ∷ vs) (of_one (on_word unary.Invert)) st st OtherKind refl
complements_law h t enough s input (Word x ∷ []) st (sx, w) = use_computes h t input complement.name 0 16 (Word x ∷ []) (Word (2 ^ 24 - 1 - x)) (complement_computes h t input s x sx) (omega arith) (omega arith) (of_one (on_word unary.Invert)) st refl
complements_law h t enough s input (Null ∷ []) st w = use_undefined h t input complement.name (Null ∷ []) (of_one (on_word unary.Invert)) st st OtherKind refl
complements_law h t enough s input (Point o k ∷ []) st w = use_undefined h t input complement.name (Point o k ∷ []) (of_one (on_word unary.Invert)) st st OtherKind refl
complements_law h t enough s input (Letter f i text k ∷ []) st w = use_undefined h t input complement.name (Letter f i text k ∷ []) (of_one (on_word unary.Invert)) st st OtherKind refl
complements_law h t enough s input (Function f ∷ []) st w = use_undefined h t input complement.name (Function f ∷ []) (of_one (on_word unary.Invert)) st st OtherKind refl
complements_law h t enough s input (Missing ∷ []) st w = use_undefined h t input complement.name (Missing ∷ []) (of_one (on_word unary.Invert)) st st OtherKind refl

pub and_law : BitsAndIsComputed
and_law h t enough s input vs st w = helped_words h t input bits_and.name are_words (λ x y. 24) 24 16 bit_and (bits_words h t input bits_and bit_and and_function s) (omega (arith, enough)) (omega arith) binary.BitAnd false and_gives (bits_fail binary.BitAnd) vs st w

pub or_law : BitsOrIsComputed
or_law h t enough s input vs st w = helped_words h t input bits_or.name are_words (λ x y. 24) 24 16 bit_or (bits_words h t input bits_or bit_or or_function s) (omega (arith, enough)) (omega arith) binary.BitOr false or_gives (bits_fail binary.BitOr) vs st w

pub xor_law : BitsXorIsComputed
xor_law h t enough s input vs st w = helped_words h t input bits_xor.name are_words (λ x y. 24) 24 16 bit_xor (bits_words h t input bits_xor bit_xor xor_function s) (omega (arith, enough)) (omega arith) binary.BitXor false xor_gives (bits_fail binary.BitXor) vs st w

pub left_law : ShiftsLeftAreComputed
left_law h t enough s input vs st w = helped_words h t input shift_left.name are_shifted (λ x y. left_units h t input y) 24 16 (λ x y. x * 2 ^ y % 2 ^ 24) (left_words h t input s) (omega (arith, enough)) (omega arith) binary.Shl false left_gives left_fails vs st w

pub right_law : UnsignedShiftsRightAreComputed
right_law h t enough sl sq own kl kq input vs st w = helped_words h t input unsigned_shift_right.name are_shifted (λ x y. right_units h t input y) 50 32 (λ x y. x / 2 ^ y) (right_words h t input sl sq own kl kq) (omega (arith, enough)) (omega arith) binary.Shr true right_gives right_fails vs st w
