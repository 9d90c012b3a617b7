-- Runs of bytes, and names.
use Rattle.std.specs.Prelude.{ℕ, List, length, take, drop, nat_lt, Ok, Err, if◌then◌else◌}
use Rattle.std.specs.Str.{is_utf8}
use Rattle.wasm_bytes.specs.declared.fault.ModFault.TheVariants.{Malformed}
use Rattle.wasm_bytes.specs.Outcome.{◌>>=◌}
use Rattle.wasm_bytes.specs.Piece.{Reading, place}
use Rattle.wasm_bytes.specs.Number.{u32_at}

-- so many bytes
unfoldable pub taken_at : ℕ → Reading (List ℕ)
taken_at n p = if nat_lt (length p.left) n then Err (Malformed p.end) else Ok (take n p.left, record { left = drop n p.left; end = p.end })

-- their number, and the bytes
unfoldable pub bytes_at : Reading (List ℕ)
bytes_at p = do
  n ← u32_at p
  taken_at n.0 n.1

-- a name is UTF-8
unfoldable pub name_at : Reading (List ℕ)
name_at p = do
  n ← u32_at p
  name ← taken_at n.0 n.1
  if is_utf8 name.0 then Ok name else Err (Malformed (place n.1))
