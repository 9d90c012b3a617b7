-- The code of a function.
use Rattle.std.specs.Prelude.{ℕ, zero, suc, ◌+◌, ◌-◌, ◌^◌, Bool, true, false, ◌&&◌, ◌==◌, nat_lt, List, [], ◌∷◌, ◌++◌, length, take, slice_get, unwrap_or, Result, Ok, Err, if◌then◌else◌}
use Rattle.wasm_bytes.specs.declared.fault.ModFault.{ModFault}
use Rattle.wasm_bytes.specs.declared.fault.ModFault.TheVariants.{Malformed, Unsupported, TooLarge}
use Rattle.wasm_bin.specs.declared.module.MemArg.{MemArg}
use Rattle.wasm_bytes.specs.Outcome.{◌>>=◌}
use Rattle.wasm_bytes.specs.Piece.{Piece, Cut, Reading, place, byte_at, expected_at, cut_at, closed_at}
use Rattle.wasm_bytes.specs.Number.{u32_at, i32_at, limited_at}
use Rattle.wasm_bin.specs.Opcode.{Plain, Typed, Index, Table, Access, Reserved, Number, Coded, is_block, is_control, is_indexed, is_access, is_sizing, is_comparison, is_arithmetic, is_instruction}
use Rattle.wasm_bin.specs.Parts.{Function}
use Rattle.wasm_bin.specs.Entry.{list_at, value_type_at}

-- no value, or one of 32 bits
unfoldable pub block_type_at : Reading Bool
block_type_at p = do
  b ← byte_at p
  if b.0 == 0x40 then Ok (false, b.1) else (value_type_at p >>= λ rest. Ok (true, rest))

-- labels, and the label for every other number
unfoldable pub table_at : Reading Coded
table_at p = do
  labels ← list_at u32_at p
  label ← u32_at labels.1
  Ok ((0x0E, Table labels.0 label.0), label.1)

-- an alignment and an offset
unfoldable pub access_at : Reading MemArg
access_at p = do
  align ← u32_at p
  offset ← u32_at align.1
  Ok (record { align = align.0; offset = offset.0 }, offset.1)

-- an opcode without operands, which stands at the place
unfoldable pub plain_of : ℕ → ℕ → Result Coded ModFault
plain_of at op =
    if op == 0x05 then Ok (op, Plain)
    else (if is_comparison op then Ok (op, Plain)
    else (if is_arithmetic op then Ok (op, Plain)
    else (if is_control op then Ok (op, Plain)
    else (if is_instruction op then Err (Unsupported at) else Err (Malformed at)))))

-- an opcode, which stands at the place, and its operands
unfoldable pub operands_at : ℕ → ℕ → Reading Coded
operands_at at op p =
    if is_block op then (block_type_at p >>= λ t. Ok ((op, Typed t.0), t.1))
    else (if is_indexed op then (u32_at p >>= λ n. Ok ((op, Index n.0), n.1))
    else (if is_access op then (access_at p >>= λ m. Ok ((op, Access m.0), m.1))
    else (if is_sizing op then (expected_at 0 p >>= λ rest. Ok ((op, Reserved), rest))
    else (if op == 0x0E then table_at p
    else (if op == 0x41 then (i32_at p >>= λ z. Ok ((op, Number z.0), z.1))
    else (plain_of at op >>= λ i. Ok (i, p)))))))

-- The open blocks of an expression, the outermost first: whether each is an if that has no else yet.
abbrev pub Blocks : Type 0
Blocks = List Bool

-- the innermost block may have an else
abbrev pub may_have_else : Blocks → Bool
may_have_else blocks = unwrap_or (slice_get blocks (length blocks - 1)) false

-- the blocks without the innermost
abbrev pub outer : Blocks → Blocks
outer blocks = take (length blocks - 1) blocks

-- the blocks that are open behind an opcode
unfoldable pub blocks_after : ℕ → Blocks → Blocks
blocks_after op blocks =
    if is_block op then blocks ++ (op == 0x04) ∷ []
    else (if op == 0x05 then outer blocks ++ false ∷ []
    else (if op == 0x0B then outer blocks else blocks))

-- an opcode within these blocks: there are at most 2^20 of them, and else stands in an if only
unfoldable pub opcode_at : Blocks → Reading ℕ
opcode_at blocks p = do
  b ← byte_at p
  if is_block b.0 then (if nat_lt (length blocks) (2 ^ 20) then Ok b else Err (TooLarge (place p)))
      else (if b.0 == 0x05 then (if may_have_else blocks then Ok b else Err (Malformed (place p))) else Ok b)

-- an end where no block is open
abbrev pub is_last : Blocks → ℕ → Bool
is_last blocks op = (op == 0x0B) && (length blocks == 0)

-- instructions up to the end that closes no block; there are no more of them than bytes
unfoldable pub code_at : ℕ → Blocks → Reading (List Coded)
code_at zero blocks p = Err (Malformed (place p))
code_at (suc n) blocks p = do
  op ← opcode_at blocks p
  i ← operands_at (place p) op.0 op.1
  if is_last blocks op.0 then Ok (i.0 ∷ [], i.1) else (code_at n (blocks_after op.0 blocks) i.1 >>= λ more. Ok (i.0 ∷ more.0, more.1))

-- so many runs of locals, for which there is so much room: the number of the locals
unfoldable pub runs_at : ℕ → ℕ → Reading ℕ
runs_at zero room p = Ok (0, p)
runs_at (suc n) room p = limited_at room p >>= λ run. value_type_at run.1 >>= λ rest. runs_at n (room - run.0) rest >>= λ more. Ok (run.0 + more.0, more.1)

-- the locals, at most 2^16 with the parameters
unfoldable pub locals_at : ℕ → Reading ℕ
locals_at params p = do
  n ← u32_at p
  runs_at n.0 (2 ^ 16 - params) n.1

-- a size, and the piece of this size
unfoldable pub sized_at : Piece → Result Cut ModFault
sized_at p = do
  size ← u32_at p
  Ok (cut_at size.0 size.1)

-- contents of a stated size
abbrev pub filled_at : {A : Type 0} → Reading A → Cut → Result (A × Piece) ModFault
filled_at contents w = contents w.inside >>= λ x. closed_at w x.1 >>= λ rest. Ok (x.0, rest)

-- the locals and the instructions of a function of so many parameters
unfoldable pub function_at : ℕ → Reading Function
function_at params p = do
  locals ← locals_at params p
  code ← code_at (length locals.1.left) [] locals.1
  Ok (record { locals = locals.0; instructions = code.0 }, code.1)

-- the body of a function of so many parameters
unfoldable pub body_at : ℕ → Reading Function
body_at params p = sized_at p >>= filled_at (function_at params)
