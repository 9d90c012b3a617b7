-- Laws of numbers.
use Rattle.std.specs.Prelude.{◌≡◌, ℕ, suc, ◌+◌, ◌*◌, ◌-◌, ◌%◌, ◌<◌, ◌≤◌, List, [], ◌∷◌, ℤ, pos, negsuc}
use Rattle.wasm_bytes.specs.Number.{signed_value}

-- 128 times a number, and the low seven bits of a byte
abbrev pub behind_byte : ℕ → ℤ → ℤ
behind_byte byte (pos n) = pos (byte % 128 + 128 * n)
behind_byte byte (negsuc n) = negsuc (128 * n + (127 - byte % 128))

-- the standard's rule for signed numbers: the last byte counts from -64 to 63, and each byte before it adds its low seven bits to 128 times what follows
pub record SignedNumbersAreSpelled : Type 0 where
  pub last : (byte : ℕ) → byte < 64 → signed_value (byte ∷ []) ≡ pos byte
  pub negative : (byte k : ℕ) → 64 ≤ byte → 128 ≡ byte + suc k → signed_value (byte ∷ []) ≡ negsuc k
  pub more : (byte next : ℕ) (others : List ℕ) → signed_value (byte ∷ next ∷ others) ≡ behind_byte byte (signed_value (next ∷ others))
