-- Words as int and as unsigned, and the values of constant expressions.
use Rattle.std.specs.Prelude.{ℕ, ◌-◌, ◌*◌, ◌^◌, Bool, true, false, ◌==◌, nat_lt, not, ℤ, pos, ◌+ℤ◌, ◌-ℤ◌, ◌*ℤ◌, neg_ℤ, int_lt, int_div, int_rem, bit_and, bit_or, bit_xor, unsigned_abs, if◌then◌else◌}
use Rattle.std.specs.Int.{int_rem_euclid, int_div_euclid}
use Rattle.word24.specs.Word.{signed_of}
use Rattle.c_syntax.specs.declared.tree.UnOp.{UnOp}
use Rattle.c_syntax.specs.declared.tree.BinOp.{BinOp}
use Rattle.c_syntax.specs.declared.tree.UnOp.TheVariants as unary
use Rattle.c_syntax.specs.declared.tree.BinOp.TheVariants as binary

-- the number that a word counts as, as unsigned or as int
abbrev pub counted : Bool → ℕ → ℤ
counted unsigned word = if unsigned then pos word else signed_of word

-- arithmetic wraps modulo 2^24
abbrev pub wrapped : ℤ → ℕ
wrapped z = unsigned_abs (int_rem_euclid z (pos (2 ^ 24)))

abbrev pub truth : Bool → ℕ
truth b = if b then 1 else 0

-- what an expression is worth before the program runs
pub data Constant : Type 0 where
  -- it is no constant expression
  NotConstant : Constant
  -- its evaluation meets a zero divisor or a shift count of 24 or more at the operator there
  Undefined : (at : ℕ) → Constant
  Value : (word : ℕ) → Constant

-- the value of an operator on one constant
abbrev pub on_one : Constant → (ℕ → Constant) → Constant
on_one NotConstant f = NotConstant
on_one (Undefined at) f = Undefined at
on_one (Value x) f = f x

-- of one on two, the left one first
abbrev pub on_two : Constant → Constant → (ℕ → ℕ → Constant) → Constant
on_two NotConstant b f = NotConstant
on_two (Undefined at) NotConstant f = NotConstant
on_two (Undefined at) b f = Undefined at
on_two (Value x) b f = on_one b (λ y. f x y)

-- a constant of which only the form matters
abbrev pub is_constant : Constant → Bool
is_constant NotConstant = false
is_constant _ = true

-- a part that isn't evaluated has to be a constant expression too
abbrev pub beside : Constant → Constant → Constant
beside skipped a = if is_constant skipped then a else NotConstant

abbrev pub and_constant : Constant → Constant → Constant
and_constant a b = beside b (on_one a (λ x. if x == 0 then Value 0 else on_one b (λ y. Value (truth (not (y == 0))))))

abbrev pub or_constant : Constant → Constant → Constant
or_constant a b = beside b (on_one a (λ x. if x == 0 then on_one b (λ y. Value (truth (not (y == 0)))) else Value 1))

-- of the two branches the chosen one is evaluated
abbrev pub choice_constant : Constant → Constant → Constant → Constant
choice_constant a b c = beside b (beside c (on_one a (λ x. if x == 0 then c else b)))

abbrev pub unary_constant : UnOp → Constant → Constant
unary_constant unary.Address a = NotConstant
unary_constant unary.Deref a = NotConstant
unary_constant unary.Plus a = a
unary_constant unary.Minus a = on_one a (λ x. Value (wrapped (neg_ℤ (pos x))))
unary_constant unary.Invert a = on_one a (λ x. Value (2 ^ 24 - 1 - x))
unary_constant unary.Not a = on_one a (λ x. Value (truth (x == 0)))

-- division truncates toward zero, and what is left has the sign of the dividend
abbrev pub divided : (ℤ → ℤ → ℤ) → Bool → ℕ → ℕ → ℕ → Constant
divided divide unsigned at x y = if y == 0 then Undefined at else Value (wrapped (divide (counted unsigned x) (counted unsigned y)))

-- a shift count counts as unsigned
abbrev pub shifted : ℕ → ℕ → ℕ → Constant
shifted at y word = if nat_lt y 24 then Value word else Undefined at

-- a binary operator other than `&&` and `||` on two words: whether its left operand is unsigned, which a shift asks, and whether one of both is
abbrev pub binary_value : ℕ → BinOp → Bool → Bool → ℕ → ℕ → Constant
binary_value at binary.Or left unsigned x y = NotConstant
binary_value at binary.And left unsigned x y = NotConstant
binary_value at binary.BitOr left unsigned x y = Value (bit_or x y)
binary_value at binary.BitXor left unsigned x y = Value (bit_xor x y)
binary_value at binary.BitAnd left unsigned x y = Value (bit_and x y)
binary_value at binary.Eq left unsigned x y = Value (truth (x == y))
binary_value at binary.Ne left unsigned x y = Value (truth (not (x == y)))
binary_value at binary.Lt left unsigned x y = Value (truth (int_lt (counted unsigned x) (counted unsigned y)))
binary_value at binary.Gt left unsigned x y = Value (truth (int_lt (counted unsigned y) (counted unsigned x)))
binary_value at binary.Le left unsigned x y = Value (truth (not (int_lt (counted unsigned y) (counted unsigned x))))
binary_value at binary.Ge left unsigned x y = Value (truth (not (int_lt (counted unsigned x) (counted unsigned y))))
binary_value at binary.Shl left unsigned x y = shifted at y (wrapped (pos (x * 2 ^ y)))
binary_value at binary.Shr left unsigned x y = shifted at y (wrapped (int_div_euclid (counted left x) (pos (2 ^ y))))
binary_value at binary.Add left unsigned x y = Value (wrapped (counted unsigned x +ℤ counted unsigned y))
binary_value at binary.Sub left unsigned x y = Value (wrapped (counted unsigned x -ℤ counted unsigned y))
binary_value at binary.Mul left unsigned x y = Value (wrapped (counted unsigned x *ℤ counted unsigned y))
binary_value at binary.Div left unsigned x y = divided int_div unsigned at x y
binary_value at binary.Mod left unsigned x y = divided int_rem unsigned at x y

abbrev pub binary_constant : ℕ → BinOp → Bool → Bool → Constant → Constant → Constant
binary_constant at binary.Or left unsigned a b = or_constant a b
binary_constant at binary.And left unsigned a b = and_constant a b
binary_constant at op left unsigned a b = on_two a b (λ x y. binary_value at op left unsigned x y)
