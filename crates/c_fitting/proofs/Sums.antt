-- Sums of a tree's parts.
use Rattle.std.proofs.Common.{◌≡◌, ℕ, ◌+◌, ◌≤◌, arith}
use Rattle.c_types.specs.Census.{Tally}
use Rattle.c_types.specs.Limits.{string_words, initialised_words, wide_types, wide_types_at}

-- the nodes, with the words of initialised objects and of string literals
abbrev pub weighing : Tally
weighing = record { expr = λ s e. 1 + string_words e; node = 1; ty = λ tags t. 0; object = initialised_words }

-- the types of more words than an object may have
abbrev pub widening : Tally
widening = record { expr = wide_types_at; node = 0; ty = wide_types; object = λ tags t v. 0 }

-- a tree of this weight and so many wide types is within the limits
pub record IsLight (weight wide : ℕ) : Type 0 where
  pub weight_is : weight ≤ 65536
  pub wide_is : wide ≡ 0

pub light : {m n k l : ℕ} → IsLight m n → k ≤ m → l ≤ n → IsLight k l
light h p q = let a = h.weight_is in let b = h.wide_is in record { weight_is = omega (arith, a, p); wide_is = omega (arith, b, q) }

pub first : (m n k l : ℕ) → IsLight (m + n) (k + l) → IsLight m k
first m n k l h = let a = h.weight_is in let b = h.wide_is in record { weight_is = omega (arith, a); wide_is = omega (arith, b) }

pub last : (m n k l : ℕ) → IsLight (m + n) (k + l) → IsLight n l
last m n k l h = let a = h.weight_is in let b = h.wide_is in record { weight_is = omega (arith, a); wide_is = omega (arith, b) }
