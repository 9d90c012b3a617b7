-- Numbers of binary digits.
use Rattle.std.proofs.Common.{◌≡◌, ℕ, zero, suc, ◌+◌, ◌*◌, ◌^◌, ◌<◌, ◌≤◌, Bool, true, false, cond, List, [], ◌∷◌, length, drop, sym, ap, ◌∙◌, arith}
use Rattle.std.specs.Prelude.{fold, slice_index_or, nat_lt}
use Rattle.std.proofs.lemmas.List.{drop_more}
use Rattle.mach_core.specs.Integer.{is_in_range}
use Rattle.ws_lang.specs.Spelling.{binary, signed}

-- the number of further digits after one
abbrev pub binary_from : ℕ → List Bool → ℕ
binary_from n digits = fold (λ n bit. 2 * n + cond bit 1 0) n digits

-- more digits make no smaller number
pub binary_from-grows : (n : ℕ) (digits : List Bool) → n ≤ binary_from n digits
binary_from-grows n [] = omega arith
binary_from-grows n (bit ∷ digits) = let h = binary_from-grows (2 * n + cond bit 1 0) digits in omega (arith, h)

-- one more digit is read
pub binary_from-more : (digits : List Bool) (i n : ℕ) (bit : Bool) → i < length digits → bit ≡ slice_index_or digits i bit → binary_from (2 * n + cond bit 1 0) (drop (i + 1) digits) ≡ binary_from n (drop i digits)
binary_from-more digits i n bit lt e =
    ap (λ b. binary_from (2 * n + cond b 1 0) (drop (i + 1) digits)) e
    ∙ sym (ap (binary_from n) (drop_more digits i bit lt))

more : (n b : ℕ) → 2 * n ≤ 2 * n + b
more n b = omega arith

doubled : (n k g d : ℕ) → 2 ^ 63 ≤ n → 2 * n ≤ k → k ≤ g → g ≡ d → 2 ^ 64 ≤ d
doubled n k g d h i j e = omega arith

above_half : (n k : ℕ) → k ≤ n → nat_lt n k ≡ false
above_half n k h = grind arith

-- a number above 2 ^ 63 is out of range with any sign
pub signed-above : (negative : Bool) (n : ℕ) → 2 ^ 63 < n → is_in_range (signed negative n) ≡ false
signed-above false n h = above_half n (2 ^ 63) (omega arith)
signed-above true zero h = absurd (omega arith)
signed-above true (suc m) h = above_half m (2 ^ 63) (omega arith)

-- a digit behind a number of 64 digits makes one of 65
pub binary-large : (digits : List Bool) (i n : ℕ) → i < length digits → 2 ^ 63 ≤ n → binary_from n (drop i digits) ≡ binary digits → 2 ^ 64 ≤ binary digits
binary-large digits i n lt le e =
    let first = slice_index_or digits i true in
    let after = drop (i + 1) digits in
    let grown : 2 * n + cond first 1 0 ≤ binary_from (2 * n + cond first 1 0) after = binary_from-grows (2 * n + cond first 1 0) after in
    let same : binary_from (2 * n + cond first 1 0) after ≡ binary digits = sym (ap (binary_from n) (drop_more digits i true lt)) ∙ e in
    doubled n (2 * n + cond first 1 0) (binary_from (2 * n + cond first 1 0) after) (binary digits) le (more n (cond first 1 0)) grown same

above_test : (n k : ℕ) → k ≤ n → nat_lt n k ≡ false
above_test n k h = grind arith

-- a number that has 64 digits is out of range with any sign
pub signed-large : (negative : Bool) (n : ℕ) → 2 ^ 64 ≤ n → is_in_range (signed negative n) ≡ false
signed-large false n h = above_test n (2 ^ 63) (omega arith)
signed-large true zero h = absurd (omega arith)
signed-large true (suc m) h = above_test m (2 ^ 63) (omega arith)

-- one more digit behind a number that is large already leads outside
pub signed-more : (negative : Bool) (n digit : ℕ) → 922337203685477580 < n → is_in_range (signed negative (10 * n + digit)) ≡ false
signed-more negative n digit h = signed-above negative (10 * n + digit) (omega arith)

pub ruleset digits_read = (binary_from-more, binary-large, signed-large, signed-more)
