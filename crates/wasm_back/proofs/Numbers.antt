-- Words of 24 bits among numbers of 32.
use Rattle.std.proofs.Common.{◌≡◌, ℕ, ◌+◌, ◌-◌, ◌*◌, ◌%◌, ◌^◌, ◌<◌, Bool, true, false, cond, refl, ◌∙◌, arith}
use Rattle.std.specs.Prelude.{bit_and, nat_le}
use Rattle.std.proofs.lemmas.Bool.Decides.{nat_tests}
use Rattle.std.proofs.lemmas.Nat.{and_mask}
use Rattle.word24.specs.Word.{sum_word, difference_word}
use Rattle.wasm_rule.specs.Number.{truth}

pub truth_is : (b : Bool) → truth b ≡ cond b 1 0
truth_is true = refl
truth_is false = refl

small_sum : (x y : ℕ) → x < 2 ^ 24 → y < 2 ^ 24 → ((x + y) % 2 ^ 32) % 2 ^ 24 ≡ (x + y) % 2 ^ 24
small_sum x y a b = omega arith

small_difference : (x y : ℕ) → x < 2 ^ 24 → y < 2 ^ 24 → ((x + (2 ^ 32 - y)) % 2 ^ 32) % 2 ^ 24 ≡ (x + (2 ^ 24 - y)) % 2 ^ 24
small_difference x y a b = omega arith

-- `and` with 2^24 - 1 leaves the word of a sum, and of a difference
pub wrapped_sum : (x y : ℕ) → x < 2 ^ 24 → y < 2 ^ 24 → bit_and ((x + y) % 2 ^ 32) (2 ^ 24 - 1) ≡ sum_word x y
wrapped_sum x y a b = and_mask ((x + y) % 2 ^ 32) 24 ∙ small_sum x y a b

pub wrapped_difference : (x y : ℕ) → x < 2 ^ 24 → y < 2 ^ 24 → bit_and ((x + (2 ^ 32 - y)) % 2 ^ 32) (2 ^ 24 - 1) ≡ difference_word x y
wrapped_difference x y a b = and_mask ((x + (2 ^ 32 - y)) % 2 ^ 32) 24 ∙ small_difference x y a b

-- the place of a word
pub place_is : (a : ℕ) → a < 2 ^ 24 → (a * 2 ^ (2 % 32)) % 2 ^ 32 ≡ 4 * a
place_is a h = omega arith

-- it lies in the memory
pub place_within : (a : ℕ) → a < 2 ^ 24 → nat_le (4 * a + 0 + 4) (65536 * 1024) ≡ true
place_within a h = grind (arith, nat_tests)
