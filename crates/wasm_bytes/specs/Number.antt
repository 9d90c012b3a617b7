-- Numbers in LEB128: seven bits a byte, the lowest first, and 128 added to each byte but the last.
use Rattle.std.specs.Prelude.{ℕ, zero, suc, ◌+◌, ◌*◌, ◌-◌, ◌%◌, ◌^◌, Bool, List, [], ◌∷◌, length, ℤ, pos, negsuc, neg_ℤ, nat_lt, Ok, Err, if◌then◌else◌}
use Rattle.wasm_bytes.specs.declared.fault.ModFault.TheVariants.{Malformed, TooLarge}
use Rattle.wasm_bytes.specs.Outcome.{◌>>=◌}
use Rattle.wasm_bytes.specs.Piece.{Reading, place, place_before, byte_at}

-- the number that the low seven bits of each byte make
abbrev pub unsigned_value : List ℕ → ℕ
unsigned_value [] = 0
unsigned_value (byte ∷ bytes) = byte % 128 + 128 * unsigned_value bytes

-- such a number of so many values, of which the upper half stand for the numbers below 0
abbrev pub signed_of : ℕ → ℕ → ℤ
signed_of value span = if nat_lt (2 * value) span then pos value else neg_ℤ (pos (span - value))

-- the number that the bytes make where their highest bit is the sign
abbrev pub signed_value : List ℕ → ℤ
signed_value bytes = signed_of (unsigned_value bytes) (128 ^ length bytes)

-- within signed 32 bits
abbrev pub is_i32 : ℤ → Bool
is_i32 (pos n) = nat_lt n (2 ^ 31)
is_i32 (negsuc n) = nat_lt n (2 ^ 31)

-- the bytes up to the first below 128, which comes after so many others at most
unfoldable pub leb_at : ℕ → Reading (List ℕ)
leb_at zero p = do
  b ← byte_at p
  if nat_lt b.0 128 then Ok (b.0 ∷ [], b.1) else Err (Malformed (place p))
leb_at (suc n) p = do
  b ← byte_at p
  if nat_lt b.0 128 then Ok (b.0 ∷ [], b.1) else (leb_at n b.1 >>= λ more. Ok (b.0 ∷ more.0, more.1))

-- an unsigned number of 32 bits
unfoldable pub u32_at : Reading ℕ
u32_at p = do
  bytes ← leb_at 4 p
  if nat_lt (unsigned_value bytes.0) (2 ^ 32) then Ok (unsigned_value bytes.0, bytes.1) else Err (Malformed (place_before bytes.1))

-- a signed number of 32 bits
unfoldable pub i32_at : Reading ℤ
i32_at p = do
  bytes ← leb_at 4 p
  if is_i32 (signed_value bytes.0) then Ok (signed_value bytes.0, bytes.1) else Err (Malformed (place_before bytes.1))

-- an unsigned number that doesn't pass a limit
unfoldable pub limited_at : ℕ → Reading ℕ
limited_at limit p = do
  n ← u32_at p
  if nat_lt limit n.0 then Err (TooLarge (place p)) else Ok n
