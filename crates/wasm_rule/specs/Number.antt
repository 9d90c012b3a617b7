-- The operations on numbers of 32 bits. A word is a number below 2 ^ 32.
use Rattle.std.specs.Prelude.{ℕ, ◌+◌, ◌-◌, ◌*◌, ◌/◌, ◌%◌, ◌^◌, Bool, true, false, not, ◌&&◌, nat_eq, nat_lt, nat_le, cond, ℤ, int_lt, int_le, bit_and, bit_or, bit_xor, count_ones, int_div, int_rem}
use Rattle.std.specs.Int.{w32, cast_signed, cast_unsigned, int_shr, leading_zeros, trailing_zeros, rotate_left, rotate_right}
use Rattle.wasm_bin.specs.declared.module.Instr.{Instr}
use Rattle.wasm_bin.specs.declared.module.Instr.TheVariants.{Eqz, Eq, Ne, LtS, LtU, GtS, GtU, LeS, LeU, GeS, GeU, Clz, Ctz, Popcnt, Add, Sub, Mul, DivS, DivU, RemS, RemU, And, Or, Xor, Shl, ShrS, ShrU, Rotl, Rotr}
use Rattle.wasm_rule.specs.declared.act.Act.{Act}
use Rattle.wasm_rule.specs.declared.act.Act.TheVariants.{Take, Put, Stop}

-- the signed number of a word, and the word of a signed number
abbrev pub signed : ℕ → ℤ
signed word = cast_signed w32 word

abbrev pub word_of : ℤ → ℕ
word_of z = cast_unsigned w32 z

-- 1 where it holds, and 0 where not
abbrev pub truth : Bool → ℕ
truth true = 1
truth false = 0

-- the quotient of -2 ^ 31 by -1 is 2 ^ 31, which is out of range
abbrev pub is_overflow : ℕ → ℕ → Bool
is_overflow x y = nat_eq x (2 ^ 31) && nat_eq y (2 ^ 32 - 1)

-- the word of that many bits, the highest of them read as its sign
abbrev pub extended : ℕ → ℕ → ℕ
extended bits word = cond (nat_lt word (2 ^ (bits - 1))) word (word + (2 ^ 32 - 2 ^ bits))

-- division by zero is fault 3, and a quotient out of range is fault 4
abbrev pub divided_signed : ℕ → ℕ → Act
divided_signed x y = cond (nat_eq y 0) (Stop 3) (cond (is_overflow x y) (Stop 4) (Put 2 (word_of (int_div (signed x) (signed y)))))

abbrev pub divided : ℕ → ℕ → Act
divided x y = cond (nat_eq y 0) (Stop 3) (Put 2 (x / y))

-- the remainder has the sign of the dividend
abbrev pub remainder_signed : ℕ → ℕ → Act
remainder_signed x y = cond (nat_eq y 0) (Stop 3) (Put 2 (word_of (int_rem (signed x) (signed y))))

abbrev pub remainder : ℕ → ℕ → Act
remainder x y = cond (nat_eq y 0) (Stop 3) (Put 2 (x % y))

-- what an instruction on numbers does with the second value x and the top y
abbrev pub number_act : Instr → ℕ → ℕ → Act
number_act Eqz x y = Put 1 (truth (nat_eq y 0))
number_act Eq x y = Put 2 (truth (nat_eq x y))
number_act Ne x y = Put 2 (truth (not (nat_eq x y)))
number_act LtS x y = Put 2 (truth (int_lt (signed x) (signed y)))
number_act LtU x y = Put 2 (truth (nat_lt x y))
number_act GtS x y = Put 2 (truth (int_lt (signed y) (signed x)))
number_act GtU x y = Put 2 (truth (nat_lt y x))
number_act LeS x y = Put 2 (truth (int_le (signed x) (signed y)))
number_act LeU x y = Put 2 (truth (nat_le x y))
number_act GeS x y = Put 2 (truth (int_le (signed y) (signed x)))
number_act GeU x y = Put 2 (truth (nat_le y x))
number_act Clz x y = Put 1 (leading_zeros w32 y)
number_act Ctz x y = Put 1 (trailing_zeros w32 y)
number_act Popcnt x y = Put 1 (count_ones y)
number_act Add x y = Put 2 ((x + y) % 2 ^ 32)
number_act Sub x y = Put 2 ((x + (2 ^ 32 - y)) % 2 ^ 32)
number_act Mul x y = Put 2 ((x * y) % 2 ^ 32)
number_act DivS x y = divided_signed x y
number_act DivU x y = divided x y
number_act RemS x y = remainder_signed x y
number_act RemU x y = remainder x y
number_act And x y = Put 2 (bit_and x y)
number_act Or x y = Put 2 (bit_or x y)
number_act Xor x y = Put 2 (bit_xor x y)
number_act Shl x y = Put 2 ((x * 2 ^ (y % 32)) % 2 ^ 32)
number_act ShrS x y = Put 2 (word_of (int_shr (signed x) (y % 32)))
number_act ShrU x y = Put 2 (x / 2 ^ (y % 32))
number_act Rotl x y = Put 2 (rotate_left w32 x y)
number_act Rotr x y = Put 2 (rotate_right w32 x y)
number_act _ x y = Take 0
