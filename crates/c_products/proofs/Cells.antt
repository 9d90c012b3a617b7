-- By how many cells a pointer moves, where it stays in its object.
use Rattle.std.proofs.Common.{◌≡◌, ⊎_elim, ℕ, zero, suc, ◌+◌, ◌-◌, ◌*◌, ◌%◌, ◌^◌, ◌<◌, ◌≤◌, List, Option, Some, None, Bool, true, false, nat_le, sym, ap, ◌∙◌, subst, arith}
use Rattle.std.specs.Prelude.{ℤ, pos, ◌+ℤ◌, ◌-ℤ◌, ◌*ℤ◌, neg_ℤ, int_lt, unsigned_abs, not}
use Rattle.std.proofs.lemmas.Bool.{cases_lt, and_parts}
use Rattle.word24.specs.Word.{signed_of}
use Rattle.c_types.specs.Constants.{counted, wrapped}
use Rattle.c_eval.specs.State.{Value, Word, Null, Point, Letter, Function, Missing, Object}
use Rattle.c_eval.specs.Memory.{is_within, offset_by, offset_of, extent_of}
use Rattle.c_products.proofs.Arithmetic.{low_is, high_is, product_is}
use Rattle.c_valid.specs.Valid.{IsValid, ObjectsAreValid}
use Rattle.c_valid.proofs.Objects.{or_none, extent_small, within_extent}

-- by so many cells a helper function moves a pointer
abbrev pub cells_of : ℕ → ℕ → ℤ
cells_of x k = signed_of (x * k % 2 ^ 24) *ℤ pos 1

pub times_one : (z : ℤ) → z *ℤ pos 1 ≡ z
times_one z = grind arith

-- ---- the product of a number and the words of an element

neg_wraps : (w z k : ℕ) → w + z ≡ k * 2 ^ 24 → wrapped (neg_ℤ (pos w)) ≡ z % 2 ^ 24
neg_wraps w z k e = grind (arith, e)

times_neg : (x v : ℕ) → pos x *ℤ neg_ℤ (pos v) ≡ neg_ℤ (pos (x * v))
times_neg x zero = grind arith
times_neg x (suc v) = grind arith

mixed : (x y : ℕ) → y < 2 ^ 24 → wrapped (pos x *ℤ signed_of y) ≡ x * y % 2 ^ 24
mixed x y sy = ⊎_elim low high (cases_lt y (2 ^ 23))
  where
    whole : (z : ℕ) → z < 2 ^ 24 → z + (2 ^ 24 - z) ≡ 2 ^ 24
    whole z lt = omega (arith, lt)

    lack : (v : ℕ) → y + v ≡ 2 ^ 24 → x * v + x * y ≡ x * 2 ^ 24
    lack v e = let times : x * (y + v) ≡ x * 2 ^ 24 = ap (λ z. x * z) e in omega (arith, times)

    low : y < 2 ^ 23 → wrapped (pos x *ℤ signed_of y) ≡ x * y % 2 ^ 24
    low a = ap (λ q. wrapped (pos x *ℤ q)) (low_is y a) ∙ positive (x * y)
      where
        positive : (z : ℕ) → wrapped (pos z) ≡ z % 2 ^ 24
        positive z = grind arith

    high : 2 ^ 23 ≤ y → wrapped (pos x *ℤ signed_of y) ≡ x * y % 2 ^ 24
    high a = ap (λ q. wrapped (pos x *ℤ q)) (high_is y a sy) ∙ (ap wrapped (times_neg x (2 ^ 24 - y)) ∙ neg_wraps (x * (2 ^ 24 - y)) (x * y) x (lack (2 ^ 24 - y) (whole y sy)))

pub product_word : (unsigned : Bool) (x y : ℕ) → x < 2 ^ 24 → y < 2 ^ 24 → wrapped (counted unsigned x *ℤ signed_of y) ≡ x * y % 2 ^ 24
product_word true x y sx sy = mixed x y sy
product_word false x y sx sy = product_is x y sx sy

-- ---- within an object

within_pos : (z : ℤ) (n : Option ℕ) → is_within z n ≡ true → z ≡ pos (unsigned_abs z)
within_pos z None e = absurd (cc e)
within_pos z (Some n) e = let some = (and_parts (not (int_lt z (pos 0))) (nat_le (unsigned_abs z) n) e).0 in positive z some
  where
    positive : (z : ℤ) → not (int_lt z (pos 0)) ≡ true → z ≡ pos (unsigned_abs z)
    positive z e = grind (arith, e)

pub offset_small : (p : Value) → IsValid p → offset_of p < 2 ^ 23
offset_small (Point o k) valid = valid
offset_small (Letter f i text k) valid = valid.1
offset_small (Word n) valid = omega arith
offset_small Null valid = omega arith
offset_small (Function f) valid = omega arith
offset_small Missing valid = omega arith

between : (z : ℤ) (i r : ℕ) → pos i +ℤ z ≡ pos r → z ≡ pos r -ℤ pos i
between z i r e = grind (arith, e)

pub back : (r i : ℕ) → r < 2 ^ 23 → i < 2 ^ 23 → signed_of (wrapped (pos r -ℤ pos i)) ≡ pos r -ℤ pos i
back r i a b = grind (arith, a, b)

-- a move within an object is counted as an int
pub counts : (z : ℤ) (i : ℕ) (n : Option ℕ) → i < 2 ^ 23 → or_none n < 2 ^ 23 → is_within (pos i +ℤ z) n ≡ true → signed_of (wrapped z) ≡ z
counts z i n small few e =
    let le : unsigned_abs (pos i +ℤ z) ≤ or_none n = within_extent (pos i +ℤ z) n e in
    let d : z ≡ pos (unsigned_abs (pos i +ℤ z)) -ℤ pos i = between z i (unsigned_abs (pos i +ℤ z)) (within_pos (pos i +ℤ z) n e) in
    subst (λ w. signed_of (wrapped w) ≡ w) (sym d) (back (unsigned_abs (pos i +ℤ z)) i (omega (arith, le, few)) small)

-- the function's move is the operator's
pub same_cells : (unsigned : Bool) (os : List Object) (p : Value) (x k : ℕ) → ObjectsAreValid os → IsValid p → x < 2 ^ 24 → k < 2 ^ 24 → is_within (offset_by p (counted unsigned x *ℤ signed_of k)) (extent_of os p) ≡ true →
    cells_of x k ≡ counted unsigned x *ℤ signed_of k
same_cells unsigned os p x k valid pv sx sk e =
    times_one (signed_of (x * k % 2 ^ 24))
    ∙ (ap signed_of (sym (product_word unsigned x k sx sk)) ∙ counts (counted unsigned x *ℤ signed_of k) (offset_of p) (extent_of os p) (offset_small p pv) (extent_small os p valid pv) e)
