-- A piece of a file that is read from left to right.
use Rattle.std.specs.Prelude.{ℕ, ◌+◌, ◌-◌, Bool, false, ◌&&◌, ◌==◌, List, [], ◌∷◌, length, take, drop, min, nat_le, Result, Ok, Err, if◌then◌else◌}
use Rattle.wasm_bytes.specs.declared.cursor.Cursor.{Cursor}
use Rattle.wasm_bytes.specs.declared.cursor.Window.{Window}
use Rattle.wasm_bytes.specs.declared.fault.ModFault.{ModFault}
use Rattle.wasm_bytes.specs.declared.fault.ModFault.TheVariants.{Malformed}
use Rattle.wasm_bytes.specs.Outcome.{◌>>=◌}

-- the bytes that are left, and where the piece ends in the file
pub record Piece : Type 0 where
  pub left : List ℕ
  pub end : ℕ

-- a value that may be read at the front of a piece, and what is left behind it
abbrev pub Reading : Type 0 → Type 0
Reading A = Piece → Result (A × Piece) ModFault

-- where the first byte that is left lies in the file
abbrev pub place : Piece → ℕ
place p = p.end - length p.left

-- where the byte before it lies
abbrev pub place_before : Piece → ℕ
place_before p = p.end - (length p.left + 1)

-- this byte comes first
abbrev pub is_first : ℕ → List ℕ → Bool
is_first byte [] = false
is_first byte (first ∷ rest) = first == byte

abbrev pub begins_with : ℕ → Piece → Bool
begins_with byte p = is_first byte p.left

-- the first byte of these, which end there
abbrev pub first_of : List ℕ → ℕ → Result (ℕ × Piece) ModFault
first_of [] end = Err (Malformed end)
first_of (byte ∷ left) end = Ok (byte, record { left = left; end = end })

-- any byte
abbrev pub byte_at : Reading ℕ
byte_at p = first_of p.left p.end

-- this byte
abbrev pub expected_at : ℕ → Piece → Result Piece ModFault
expected_at byte p = byte_at p >>= λ b. if b.0 == byte then Ok b.1 else Err (Malformed (place p))

-- a piece whose size is stated, what stands behind it, and whether it is as long as stated
pub record Cut : Type 0 where
  pub inside : Piece
  pub behind : Piece
  pub whole : Bool

-- the next bytes, as many as stated, or all where there are fewer
abbrev pub cut_at : ℕ → Piece → Cut
cut_at size p = let cut = min size (length p.left) in record {
  inside = record { left = take cut p.left; end = p.end - length (drop cut p.left) };
  behind = record { left = drop cut p.left; end = p.end };
  whole = nat_le size (length p.left);
}

-- the contents have ended where the piece ends
abbrev pub closed_at : Cut → Piece → Result Piece ModFault
closed_at w rest = if (length rest.left == 0) && w.whole then Ok w.behind else Err (Malformed (place rest))

abbrev pub piece : Cursor → Piece
piece c = record { left = c.left.now; end = c.end }

abbrev pub view_window : Window → Cut
view_window w = record { inside = piece w.inside; behind = piece w.behind; whole = w.whole }
