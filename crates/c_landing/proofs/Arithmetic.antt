-- The operators on words, by their numbers.
use Rattle.std.proofs.Common.{◌≡◌, ⊎_elim, ℕ, ◌+◌, ◌-◌, ◌%◌, ◌^◌, ◌<◌, ◌≤◌, Bool, true, false, nat_lt, nat_le, sym, ap, ◌∙◌, arith, if◌then◌else◌}
use Rattle.std.specs.Prelude.{ℤ, pos, ◌+ℤ◌, ◌-ℤ◌, ◌*ℤ◌, neg_ℤ, int_lt, int_div, not}
use Rattle.std.proofs.lemmas.Bool.{cases_lt}
use Rattle.word24.specs.Word.{sum_word, difference_word, signed_of}
use Rattle.c_types.specs.Constants.{counted, wrapped}

pub wrapped_word : (z : ℤ) → wrapped z < 2 ^ 24
wrapped_word z = grind arith

pub sum_of : (unsigned : Bool) (x y : ℕ) → x < 2 ^ 24 → y < 2 ^ 24 → sum_word x y ≡ wrapped (counted unsigned x +ℤ counted unsigned y)
sum_of true x y a b = grind (arith, a, b)
sum_of false x y a b = grind (arith, a, b)

pub difference_of : (unsigned : Bool) (x y : ℕ) → x < 2 ^ 24 → y < 2 ^ 24 → difference_word x y ≡ wrapped (counted unsigned x -ℤ counted unsigned y)
difference_of true x y a b = grind (arith, a, b)
difference_of false x y a b = grind (arith, a, b)

-- ---- pointers that move

low_is : (x : ℕ) → x < 2 ^ 23 → signed_of x ≡ pos x
low_is x a = grind (arith, a)

high_is : (x : ℕ) → 2 ^ 23 ≤ x → x < 2 ^ 24 → signed_of x ≡ neg_ℤ (pos (2 ^ 24 - x))
high_is x a b = grind (arith, a, b)

up : (k n r : ℕ) → pos k +ℤ pos n *ℤ pos 1 ≡ pos r → k + n ≡ r
up k n r e = grind (arith, e)

down : (k l r : ℕ) → pos k +ℤ neg_ℤ (pos l) *ℤ pos 1 ≡ pos r → k ≡ r + l
down k l r e = grind (arith, e)

up_back : (k n r : ℕ) → pos k +ℤ neg_ℤ (pos n *ℤ pos 1) ≡ pos r → k ≡ r + n
up_back k n r e = grind (arith, e)

down_back : (k l r : ℕ) → pos k +ℤ neg_ℤ (neg_ℤ (pos l) *ℤ pos 1) ≡ pos r → k + l ≡ r
down_back k l r e = grind (arith, e)

-- by a number of cells
pub moved_on : (unsigned : Bool) (n b k r : ℕ) → n < 2 ^ 24 → pos k +ℤ counted unsigned n *ℤ pos 1 ≡ pos r → b + r < 2 ^ 24 → sum_word (b + k) n ≡ b + r
moved_on true n b k r lt e room = omega (arith, up k n r e, room)
moved_on false n b k r lt e room = ⊎_elim (λ low. (let f : pos k +ℤ pos n *ℤ pos 1 ≡ pos r = ap (λ z. pos k +ℤ z *ℤ pos 1) (sym (low_is n low)) ∙ e in omega (arith, up k n r f, room)))
    (λ high. (let f : pos k +ℤ neg_ℤ (pos (2 ^ 24 - n)) *ℤ pos 1 ≡ pos r = ap (λ z. pos k +ℤ z *ℤ pos 1) (sym (high_is n high lt)) ∙ e in omega (arith, down k (2 ^ 24 - n) r f, room, lt, high))) (cases_lt n (2 ^ 23))

-- and back
pub moved_back : (unsigned : Bool) (n b k r : ℕ) → n < 2 ^ 24 → pos k +ℤ neg_ℤ (counted unsigned n *ℤ pos 1) ≡ pos r → b + r < 2 ^ 24 → difference_word (b + k) n ≡ b + r
moved_back true n b k r lt e room = omega (arith, up_back k n r e, room, lt)
moved_back false n b k r lt e room = ⊎_elim (λ low. (let f : pos k +ℤ neg_ℤ (pos n *ℤ pos 1) ≡ pos r = ap (λ z. pos k +ℤ neg_ℤ (z *ℤ pos 1)) (sym (low_is n low)) ∙ e in omega (arith, up_back k n r f, room, lt)))
    (λ high. (let f : pos k +ℤ neg_ℤ (neg_ℤ (pos (2 ^ 24 - n)) *ℤ pos 1) ≡ pos r = ap (λ z. pos k +ℤ neg_ℤ (z *ℤ pos 1)) (sym (high_is n high lt)) ∙ e in omega (arith, down_back k (2 ^ 24 - n) r f, room, lt, high))) (cases_lt n (2 ^ 23))

by_one : (z : ℤ) → int_div z (pos 1) ≡ z
by_one z = grind arith

-- what lies between two places
pub between : (b k l : ℕ) → b + k < 2 ^ 24 → b + l < 2 ^ 24 → difference_word (b + k) (b + l) ≡ wrapped (int_div (pos k -ℤ pos l) (pos 1))
between b k l x y = apart ∙ ap wrapped (sym (by_one (pos k -ℤ pos l)))
  where
    apart : difference_word (b + k) (b + l) ≡ wrapped (pos k -ℤ pos l)
    apart = grind (arith, x, y)

-- ---- order

-- words are in the order of ints once 2^23 is added to both
abbrev pub lifted : Bool → ℕ → ℕ
lifted signed x = if signed then (x + 2 ^ 23) % 2 ^ 24 else x

pub before_is : (unsigned : Bool) (x y : ℕ) → x < 2 ^ 24 → y < 2 ^ 24 → int_lt (counted unsigned x) (counted unsigned y) ≡ nat_lt (lifted (not unsigned) x) (lifted (not unsigned) y)
before_is true x y a b = grind arith
before_is false x y a b = grind (arith, a, b)

pub not_before_is : (x y : ℕ) → not (nat_lt y x) ≡ nat_le x y
not_before_is x y = grind arith
