-- The laws of the crate.
use Rattle.std.proofs.Common.{◌≡◌, ℕ, zero, suc, ◌+◌, ◌-◌, ◌*◌, ◌/◌, ◌%◌, ◌^◌, ◌<◌, ◌≤◌, List, [], ◌∷◌, Bool, true, false, cond, nat_lt, nat_le, refl, sym, ap, ap₂, ◌∙◌, subst, arith}
use Rattle.std.specs.Prelude.{◌&&◌, ◌==◌, if◌then◌else◌, pos, int_div, int_rem}
use Rattle.std.proofs.lemmas.Bool.{lt-ltb, ltb-true, leb-true, ne_eqb, and_parts}
use Rattle.word24.specs.Word.{signed_of}
use Rattle.c_syntax.specs.declared.tree.BinOp.TheVariants as binary
use Rattle.c_types.specs.Types.{Int, Unsigned}
use Rattle.c_types.specs.Constants as constant
use Rattle.c_types.specs.Constants.{wrapped}
use Rattle.c_eval.specs.State.{Value, Word, Act, ZeroDivisor, Object, State, Gives, Undefined}
use Rattle.c_eval.specs.Run.{give, undefined}
use Rattle.c_eval.specs.Operators.{of_word, word_act, word_result, on_words}
use Rattle.c_eval.specs.Text.{Text}
use Rattle.c_eval.specs.Helpers.{Helpers, helper_calls}
use Rattle.c_helpers.specs.Functions.{product, unsigned_quotient, int_quotient, unsigned_remainder, int_remainder}
use Rattle.c_helpers.specs.Meanings.{counting}
use Rattle.c_apart.proofs.Apart.{Done, Part, p_function}
use Rattle.c_apart.proofs.Uses.{computes}
use Rattle.c_apart.proofs.Words.{is_below_zero}
use Rattle.c_products.specs.Found.{binary_definition, Stands, Knows}
use Rattle.c_products.specs.Laws.{ProductsAreComputed, UnsignedQuotientsAreComputed, IntQuotientsAreComputed, UnsignedRemaindersAreComputed, IntRemaindersAreComputed}
use Rattle.c_products.proofs.Arithmetic.{product_is, unsigned_quotient_is, unsigned_remainder_is, left_over}
use Rattle.c_products.proofs.Product.{holding}
use Rattle.c_products.proofs.Quotient.{quotient_units}
use Rattle.c_products.proofs.Nested.{OnWords, p_on_words, within_depth, on_words_nested}
use Rattle.c_products.proofs.Computed.{are_words, are_divisible, products, quotients}
use Rattle.c_products.proofs.Remainder.{p_two, two_nested, remainder_runs}
use Rattle.c_products.proofs.IntQuotient.{p_one, one_nested, size_by, size_is, quotient_runs, value_is}
use Rattle.c_products.proofs.IntRemainder.{int_quotient_word, int_remainder_runs, int_left_over, wrapped_small}
use Rattle.c_products.proofs.Helped.{helped_words}

words_are : (x y : ℕ) → x < 2 ^ 24 → y < 2 ^ 24 → are_words x y ≡ true
words_are x y sx sy = ap₂ (λ a b. a && b) (lt-ltb x (2 ^ 24) sx) (lt-ltb y (2 ^ 24) sy)

divisible : (x y : ℕ) → x < 2 ^ 24 → y < 2 ^ 24 → 0 < y → are_divisible x y ≡ true
divisible x y sx sy some = ap₂ (λ a b. a && b) (words_are x y sx sy) (lt-ltb 0 y some)

some_of : (x y : ℕ) → are_divisible x y ≡ true → 0 < y
some_of x y e = ltb-true 0 y (and_parts (are_words x y) (nat_lt 0 y) e).1

-- ---- what the operators do

pub product_gives : (x y : ℕ) → x < 2 ^ 24 → y < 2 ^ 24 → are_words x y ≡ true → (st : State) → on_words binary.Mul (counting false) (counting false) (Word x) (Word y) st ≡ Gives (Word (x * y % 2 ^ 24)) st
unfolding on_words of_word word_result give
product_gives x y sx sy ok st = ap (λ z. Gives (Word z) st) (product_is x y sx sy)

pub product_fails : (x y : ℕ) → x < 2 ^ 24 → y < 2 ^ 24 → are_words x y ≡ false → (st : State) → (act : Act) × (on_words binary.Mul (counting false) (counting false) (Word x) (Word y) st ≡ Undefined act st)
product_fails x y sx sy lacks st = absurd (cc (sym (words_are x y sx sy) ∙ lacks))

division_gives : (w y : ℕ) (st : State) → 0 < y → word_result binary.Div (if y == 0 then constant.Undefined 0 else constant.Value w) st ≡ Gives (Word w) st
unfolding word_result give
division_gives w y st some = ap (λ b. word_result binary.Div (if b then constant.Undefined 0 else constant.Value w) st) (ne_eqb y 0 (λ e. absurd (omega (arith, e, some))))

remainder_gives : (w y : ℕ) (st : State) → 0 < y → word_result binary.Mod (if y == 0 then constant.Undefined 0 else constant.Value w) st ≡ Gives (Word w) st
unfolding word_result give
remainder_gives w y st some = ap (λ b. word_result binary.Mod (if b then constant.Undefined 0 else constant.Value w) st) (ne_eqb y 0 (λ e. absurd (omega (arith, e, some))))

pub unsigned_gives : (x y : ℕ) → x < 2 ^ 24 → y < 2 ^ 24 → are_divisible x y ≡ true → (st : State) → on_words binary.Div (counting true) (counting true) (Word x) (Word y) st ≡ Gives (Word (x / y)) st
unfolding on_words of_word
unsigned_gives x y sx sy ok st = division_gives (wrapped (int_div (pos x) (pos y))) y st (some_of x y ok) ∙ ap (λ z. Gives (Word z) st) (unsigned_quotient_is x y sx)

pub int_gives : (x y : ℕ) → x < 2 ^ 24 → y < 2 ^ 24 → are_divisible x y ≡ true → (st : State) → on_words binary.Div (counting false) (counting false) (Word x) (Word y) st ≡ Gives (Word (wrapped (int_div (signed_of x) (signed_of y)))) st
unfolding on_words of_word
int_gives x y sx sy ok st = division_gives (wrapped (int_div (signed_of x) (signed_of y))) y st (some_of x y ok)

pub left_gives : (x y : ℕ) → x < 2 ^ 24 → y < 2 ^ 24 → are_divisible x y ≡ true → (st : State) → on_words binary.Mod (counting true) (counting true) (Word x) (Word y) st ≡ Gives (Word (x % y)) st
unfolding on_words of_word
left_gives x y sx sy ok st = remainder_gives (wrapped (int_rem (pos x) (pos y))) y st (some_of x y ok) ∙ ap (λ z. Gives (Word z) st) (unsigned_remainder_is x y sx)

none_divisible : (x y : ℕ) → x < 2 ^ 24 → suc y < 2 ^ 24 → are_divisible x (suc y) ≡ false → ⊥
none_divisible x y sx sy lacks = absurd (cc (sym (divisible x (suc y) sx sy (omega arith)) ∙ lacks))

pub division_fails : (unsigned : Bool) (x y : ℕ) → x < 2 ^ 24 → y < 2 ^ 24 → are_divisible x y ≡ false → (st : State) → (act : Act) × (on_words binary.Div (counting unsigned) (counting unsigned) (Word x) (Word y) st ≡ Undefined act st)
unfolding on_words of_word word_result word_act undefined
division_fails true x zero sx sy lacks st = (ZeroDivisor, refl)
division_fails false x zero sx sy lacks st = (ZeroDivisor, refl)
division_fails unsigned x (suc y) sx sy lacks st = absurd (none_divisible x y sx sy lacks)

pub remainder_fails : (unsigned : Bool) (x y : ℕ) → x < 2 ^ 24 → y < 2 ^ 24 → are_divisible x y ≡ false → (st : State) → (act : Act) × (on_words binary.Mod (counting unsigned) (counting unsigned) (Word x) (Word y) st ≡ Undefined act st)
unfolding on_words of_word word_result word_act undefined
remainder_fails true x zero sx sy lacks st = (ZeroDivisor, refl)
remainder_fails false x zero sx sy lacks st = (ZeroDivisor, refl)
remainder_fails unsigned x (suc y) sx sy lacks st = absurd (none_divisible x y sx sy lacks)

-- ---- the laws

module _ (h : Helpers) (t : Text) (input : List ℕ) where
  pub product_words : Stands h t Int product → OnWords h t input product.name are_words (λ x y. 24) 24 16 (λ x y. x * y % 2 ^ 24)
  product_words s = products h t input s.tags s.names s.defined 16 s.found s.charge

  pub quotient_words : Stands h t Unsigned unsigned_quotient → OnWords h t input unsigned_quotient.name are_divisible (λ x y. quotient_units y) 24 16 (λ x y. x / y)
  quotient_words s = quotients h t input s.tags s.names s.defined 16 s.found s.charge

  few : (y : ℕ) → quotient_units y ≤ 24
  few y = go (nat_le (2 ^ 23) y)
    where
      go : (b : Bool) → cond b 0 24 ≤ 24
      go true = omega arith
      go false = omega arith

  abbrev pub left_units : ℕ → ℕ
  left_units y = suc (quotient_units y) + 25

  abbrev left_calls : ℕ → List ℕ → List Value → Part Value
  left_calls deep = p_two unsigned_quotient.name (p_on_words (within_depth are_divisible (λ x y. quotient_units y) deep) (λ x y. quotient_units y) 16 (λ x y. x / y)) product.name (p_on_words (within_depth are_words (λ x y. 24) deep) (λ x y. 24) 16 (λ x y. x * y % 2 ^ 24))

  small_quotient : (x y : ℕ) → x < 2 ^ 24 → x / y < 2 ^ 24
  small_quotient x y a = grind (arith, a)

  pub remainder_words : Stands h t Int product → Stands h t Unsigned unsigned_quotient → (own : Stands h t Unsigned unsigned_remainder) → Knows own.names Unsigned unsigned_quotient → Knows own.names Int product
      → OnWords h t input unsigned_remainder.name are_divisible (λ x y. left_units y) 50 32 (λ x y. x % y)
  remainder_words sp sq own kq kp = record {
    computes = λ x y ok. computes h t input unsigned_remainder.name (binary_definition Unsigned unsigned_remainder own.tags own.names own.defined) (left_units y) 32 (Word x ∷ Word y ∷ []) (Word (x % y)) own.found (omega (arith, own.charge)) left_calls
        (λ deep lt n g us. two_nested n unsigned_quotient.name product.name _ _ (helper_calls deep h t input) (on_words_nested h t input unsigned_quotient.name are_divisible (λ x y. quotient_units y) 24 16 (λ x y. x / y) (quotient_words sq) sq.unknown deep n) (on_words_nested h t input product.name are_words (λ x y. 24) 24 16 (λ x y. x * y % 2 ^ 24) (product_words sp) sp.unknown deep n) g us)
        (λ deep k st lt e small. go deep k x y st lt e small ok (and_parts (nat_lt x (2 ^ 24)) (nat_lt y (2 ^ 24)) (and_parts (are_words x y) (nat_lt 0 y) ok).0));
    bounded = λ x y. let le : quotient_units y ≤ 24 = few y in omega (arith, le);
  }
    where
      go : (deep k x y : ℕ) (st : State) → left_units y < deep → st.spare ≡ left_units y + k → st.words + 32 ≤ 1024 → are_divisible x y ≡ true → (nat_lt x (2 ^ 24) ≡ true) × (nat_lt y (2 ^ 24) ≡ true)
          → (objects : List Object) × (p_function (binary_definition Unsigned unsigned_remainder own.tags own.names own.defined) deep (left_calls deep) (Word x ∷ Word y ∷ []) (record st { words = st.words + h.charge unsigned_remainder.name }) [] ≡ Done (Word (x % y)) (record st { spare = k; words = st.words + h.charge unsigned_remainder.name }) objects)
      go deep k x y st lt e small ok both =
          let sx : x < 2 ^ 24 = ltb-true x (2 ^ 24) both.0 in
          let sy : y < 2 ^ 24 = ltb-true y (2 ^ 24) both.1 in
          let left : st.spare - suc (quotient_units y) - 25 ≡ k = omega (arith, e) in (
            (holding false x ∷ holding false y ∷ holding false (x / y) ∷ holding false (y * (x / y) % 2 ^ 24) ∷ []),
            remainder_runs own.tags own.names own.defined deep x y 16 (within_depth are_divisible (λ x y. quotient_units y) deep) (within_depth are_words (λ x y. 24) deep) (λ x y. quotient_units y) (record st { words = st.words + h.charge unsigned_remainder.name }) kq.0 kp.0 kq.1 kp.1
                (ap₂ (λ a b. a && b) ok (lt-ltb (suc (quotient_units y)) deep (omega (arith, lt)))) (ap₂ (λ a b. a && b) (words_are y (x / y) sy (small_quotient x y sx)) (lt-ltb 25 deep (omega (arith, lt))))
                (omega (arith, e)) (omega (arith, e)) (omega (arith, small, own.charge))
                ∙ λ i. Done (Word (left_over x y sx i)) (record st { spare = left i; words = st.words + h.charge unsigned_remainder.name }) (holding false x ∷ holding false y ∷ holding false (x / y) ∷ holding false (y * (x / y) % 2 ^ 24) ∷ []),
          )

  abbrev low : ℕ → Bool
  low x = nat_le (2 ^ 23) x

  size_small : (x : ℕ) (b : Bool) → low x ≡ b → x < 2 ^ 24 → size_by b x < 2 ^ 24
  size_small x true e sx = let high : 2 ^ 23 ≤ x = leb-true (2 ^ 23) x e in subst (λ z. z < 2 ^ 24) (sym (size_is x high sx)) (omega (arith, high))
  size_small x false e sx = sx

  size_some : (x : ℕ) (b : Bool) → low x ≡ b → x < 2 ^ 24 → 0 < x → 0 < size_by b x
  size_some x true e sx some = let high : 2 ^ 23 ≤ x = leb-true (2 ^ 23) x e in subst (λ z. 0 < z) (sym (size_is x high sx)) (omega (arith, sx))
  size_some x false e sx some = some

  abbrev pub int_units : ℕ → ℕ
  int_units y = suc (quotient_units (size_by (low y) y))

  abbrev int_calls : ℕ → List ℕ → List Value → Part Value
  int_calls deep = p_one unsigned_quotient.name (p_on_words (within_depth are_divisible (λ x y. quotient_units y) deep) (λ x y. quotient_units y) 16 (λ x y. x / y))

  pub int_words : Stands h t Unsigned unsigned_quotient → (own : Stands h t Int int_quotient) → Knows own.names Unsigned unsigned_quotient → OnWords h t input int_quotient.name are_divisible (λ x y. int_units y) 25 32 (λ x y. wrapped (int_div (signed_of x) (signed_of y)))
  int_words sq own kq = record {
    computes = λ x y ok. computes h t input int_quotient.name (binary_definition Int int_quotient own.tags own.names own.defined) (int_units y) 32 (Word x ∷ Word y ∷ []) (Word (wrapped (int_div (signed_of x) (signed_of y)))) own.found (omega (arith, own.charge)) int_calls
        (λ deep lt n g us. one_nested n unsigned_quotient.name _ (helper_calls deep h t input) (on_words_nested h t input unsigned_quotient.name are_divisible (λ x y. quotient_units y) 24 16 (λ x y. x / y) (quotient_words sq) sq.unknown deep n) g us)
        (λ deep k st lt e small. go deep k x y st lt e small (some_of x y ok) (and_parts (nat_lt x (2 ^ 24)) (nat_lt y (2 ^ 24)) (and_parts (are_words x y) (nat_lt 0 y) ok).0));
    bounded = λ x y. let le : quotient_units (size_by (low y) y) ≤ 24 = few (size_by (low y) y) in omega (arith, le);
  }
    where
      go : (deep k x y : ℕ) (st : State) → int_units y < deep → st.spare ≡ int_units y + k → st.words + 32 ≤ 1024 → 0 < y → (nat_lt x (2 ^ 24) ≡ true) × (nat_lt y (2 ^ 24) ≡ true)
          → (objects : List Object) × (p_function (binary_definition Int int_quotient own.tags own.names own.defined) deep (int_calls deep) (Word x ∷ Word y ∷ []) (record st { words = st.words + h.charge int_quotient.name }) [] ≡ Done (Word (wrapped (int_div (signed_of x) (signed_of y)))) (record st { spare = k; words = st.words + h.charge int_quotient.name }) objects)
      go deep k x y st lt e small some both =
          let sx : x < 2 ^ 24 = ltb-true x (2 ^ 24) both.0 in
          let sy : y < 2 ^ 24 = ltb-true y (2 ^ 24) both.1 in
          let left : st.spare - int_units y ≡ k = omega (arith, e) in (
            (holding false x ∷ holding false y ∷ holding false (size_by (low x) x) ∷ holding false (size_by (low y) y) ∷ holding false (size_by (low x) x / size_by (low y) y) ∷ []),
            quotient_runs own.tags own.names own.defined deep x y 16 (within_depth are_divisible (λ x y. quotient_units y) deep) (λ x y. quotient_units y) (record st { words = st.words + h.charge int_quotient.name }) kq.0 (low x) (low y) (is_below_zero x sx) (is_below_zero y sy) kq.1
                (ap₂ (λ a b. a && b) (divisible (size_by (low x) x) (size_by (low y) y) (size_small x (low x) refl sx) (size_small y (low y) refl sy) (size_some y (low y) refl sy some)) (lt-ltb (int_units y) deep lt))
                (omega (arith, e)) (omega (arith, small, own.charge))
                ∙ λ i. Done (Word (value_is x y (low x) (low y) sx sy refl refl i)) (record st { spare = left i; words = st.words + h.charge int_quotient.name }) (holding false x ∷ holding false y ∷ holding false (size_by (low x) x) ∷ holding false (size_by (low y) y) ∷ holding false (size_by (low x) x / size_by (low y) y) ∷ []),
          )

  abbrev pub int_left_units : ℕ → ℕ
  int_left_units y = suc (int_units y) + 25

  abbrev int_left_calls : ℕ → List ℕ → List Value → Part Value
  int_left_calls deep = p_two int_quotient.name (p_on_words (within_depth are_divisible (λ x y. int_units y) deep) (λ x y. int_units y) 32 int_quotient_word) product.name (p_on_words (within_depth are_words (λ x y. 24) deep) (λ x y. 24) 16 (λ x y. x * y % 2 ^ 24))

  pub int_remainder_words : Stands h t Int product → Stands h t Unsigned unsigned_quotient → (d : Stands h t Int int_quotient) → Knows d.names Unsigned unsigned_quotient → (own : Stands h t Int int_remainder) → Knows own.names Int int_quotient → Knows own.names Int product
      → OnWords h t input int_remainder.name are_divisible (λ x y. int_left_units y) 51 48 (λ x y. wrapped (int_rem (signed_of x) (signed_of y)))
  int_remainder_words sp sq d kd own kq kp = record {
    computes = λ x y ok. computes h t input int_remainder.name (binary_definition Int int_remainder own.tags own.names own.defined) (int_left_units y) 48 (Word x ∷ Word y ∷ []) (Word (wrapped (int_rem (signed_of x) (signed_of y)))) own.found (omega (arith, own.charge)) int_left_calls
        (λ deep lt n g us. two_nested n int_quotient.name product.name _ _ (helper_calls deep h t input) (on_words_nested h t input int_quotient.name are_divisible (λ x y. int_units y) 25 32 int_quotient_word (int_words sq d kd) d.unknown deep n) (on_words_nested h t input product.name are_words (λ x y. 24) 24 16 (λ x y. x * y % 2 ^ 24) (product_words sp) sp.unknown deep n) g us)
        (λ deep k st lt e small. go deep k x y st lt e small ok (and_parts (nat_lt x (2 ^ 24)) (nat_lt y (2 ^ 24)) (and_parts (are_words x y) (nat_lt 0 y) ok).0));
    bounded = λ x y. let le : quotient_units (size_by (low y) y) ≤ 24 = few (size_by (low y) y) in omega (arith, le);
  }
    where
      go : (deep k x y : ℕ) (st : State) → int_left_units y < deep → st.spare ≡ int_left_units y + k → st.words + 48 ≤ 1024 → are_divisible x y ≡ true → (nat_lt x (2 ^ 24) ≡ true) × (nat_lt y (2 ^ 24) ≡ true)
          → (objects : List Object) × (p_function (binary_definition Int int_remainder own.tags own.names own.defined) deep (int_left_calls deep) (Word x ∷ Word y ∷ []) (record st { words = st.words + h.charge int_remainder.name }) [] ≡ Done (Word (wrapped (int_rem (signed_of x) (signed_of y)))) (record st { spare = k; words = st.words + h.charge int_remainder.name }) objects)
      go deep k x y st lt e small ok both =
          let sx : x < 2 ^ 24 = ltb-true x (2 ^ 24) both.0 in
          let sy : y < 2 ^ 24 = ltb-true y (2 ^ 24) both.1 in
          let left : st.spare - suc (int_units y) - 25 ≡ k = omega (arith, e) in (
            holding false x ∷ holding false y ∷ holding false (int_quotient_word x y) ∷ holding false (y * int_quotient_word x y % 2 ^ 24) ∷ [],
            int_remainder_runs own.tags own.names own.defined deep x y 32 16 (within_depth are_divisible (λ x y. int_units y) deep) (within_depth are_words (λ x y. 24) deep) (λ x y. int_units y) (record st { words = st.words + h.charge int_remainder.name }) kq.0 kp.0 kq.1 kp.1
                (ap₂ (λ a b. a && b) ok (lt-ltb (suc (int_units y)) deep (omega (arith, lt)))) (ap₂ (λ a b. a && b) (words_are y (int_quotient_word x y) sy (wrapped_small (int_div (signed_of x) (signed_of y)))) (lt-ltb 25 deep (omega (arith, lt))))
                (omega (arith, e)) (omega (arith, e)) (omega (arith, small, own.charge)) (omega (arith, small, own.charge))
                ∙ λ i. Done (Word (int_left_over x y sx sy i)) (record st { spare = left i; words = st.words + h.charge int_remainder.name }) (holding false x ∷ holding false y ∷ holding false (int_quotient_word x y) ∷ holding false (y * int_quotient_word x y % 2 ^ 24) ∷ []),
          )

pub int_left_gives : (x y : ℕ) → x < 2 ^ 24 → y < 2 ^ 24 → are_divisible x y ≡ true → (st : State) → on_words binary.Mod (counting false) (counting false) (Word x) (Word y) st ≡ Gives (Word (wrapped (int_rem (signed_of x) (signed_of y)))) st
unfolding on_words of_word
int_left_gives x y sx sy ok st = remainder_gives (wrapped (int_rem (signed_of x) (signed_of y))) y st (some_of x y ok)

pub int_remainders_law : IntRemaindersAreComputed
int_remainders_law h t enough sp sq d kd own kq kp input vs st w = helped_words h t input int_remainder.name are_divisible (λ x y. int_left_units h t input y) 51 48 (λ x y. wrapped (int_rem (signed_of x) (signed_of y))) (int_remainder_words h t input sp sq d kd own kq kp) (omega (arith, enough)) (omega arith) binary.Mod false int_left_gives (remainder_fails false) vs st w

pub int_quotients_law : IntQuotientsAreComputed
int_quotients_law h t enough sq own kq input vs st w = helped_words h t input int_quotient.name are_divisible (λ x y. int_units h t input y) 25 32 (λ x y. wrapped (int_div (signed_of x) (signed_of y))) (int_words h t input sq own kq) (omega (arith, enough)) (omega arith) binary.Div false int_gives (division_fails false) vs st w

pub products_law : ProductsAreComputed
products_law h t enough s input vs st w = helped_words h t input product.name are_words (λ x y. 24) 24 16 (λ x y. x * y % 2 ^ 24) (product_words h t input s) (omega (arith, enough)) (omega arith) binary.Mul false product_gives product_fails vs st w

pub unsigned_quotients_law : UnsignedQuotientsAreComputed
unsigned_quotients_law h t enough s input vs st w = helped_words h t input unsigned_quotient.name are_divisible (λ x y. quotient_units y) 24 16 (λ x y. x / y) (quotient_words h t input s) (omega (arith, enough)) (omega arith) binary.Div true unsigned_gives (division_fails true) vs st w

pub unsigned_remainders_law : UnsignedRemaindersAreComputed
unsigned_remainders_law h t enough sp sq own kq kp input vs st w = helped_words h t input unsigned_remainder.name are_divisible (λ x y. left_units h t input y) 50 32 (λ x y. x % y) (remainder_words h t input sp sq own kq kp) (omega (arith, enough)) (omega arith) binary.Mod true left_gives (remainder_fails true) vs st w
