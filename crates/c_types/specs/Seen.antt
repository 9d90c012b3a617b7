-- What the values of the code are.
use Rattle.std.specs.Prelude.{◌≡◌, ℕ, ◌+◌, ◌%◌, ◌^◌, min}
use Rattle.word24.specs.Word.{number_of}
use Rattle.c_types.specs.Constants as plain
use Rattle.c_types.specs.Limits.{most_words}
use Rattle.c_types.specs.declared.constant.Constant.{Constant}
use Rattle.c_types.specs.declared.constant.Constant.TheVariants.{NotConstant, Undefined, Value}
use Rattle.c_types.specs.declared.words.Words.{Words}

abbrev pub constant_of : Constant → plain.Constant
constant_of NotConstant = plain.NotConstant
constant_of (Undefined at) = plain.Undefined at
constant_of (Value w) = plain.Value (number_of w)

-- a number of words is kept by its lowest 24 bits, and itself as far as one above the greatest that is allowed
pub record Counts (w : Words) (n : ℕ) : Type 0 where
  pub low : number_of w.low ≡ n % 2 ^ 24
  pub capped : w.capped ≡ min n (most_words + 1)
