-- The entries of the sections.
use Rattle.std.specs.Prelude.{ℕ, zero, suc, ◌^◌, Bool, ◌||◌, ◌&&◌, ◌==◌, nat_le, List, [], ◌∷◌, ℤ, Option, Some, None, Result, Ok, Err, if◌then◌else◌}
use Rattle.wasm_bytes.specs.declared.fault.ModFault.{ModFault}
use Rattle.wasm_bytes.specs.declared.fault.ModFault.TheVariants.{Malformed, Unsupported}
use Rattle.wasm_bin.specs.declared.module.FuncType.{FuncType}
use Rattle.wasm_bin.specs.declared.module.Limits.{Limits}
use Rattle.wasm_bin.specs.declared.module.GlobalVar.{GlobalVar}
use Rattle.wasm_bytes.specs.Outcome.{◌>>=◌}
use Rattle.wasm_bytes.specs.Piece.{Piece, Reading, place, byte_at, expected_at}
use Rattle.wasm_bytes.specs.Number.{u32_at, i32_at, limited_at}
use Rattle.wasm_bytes.specs.Text.{bytes_at, name_at}
use Rattle.wasm_bin.specs.Opcode.{is_instruction}
use Rattle.wasm_bin.specs.Parts.{Foreign, Shown, Stretch}

-- so many values, one after the other
unfoldable pub items_at : {A : Type 0} → Reading A → ℕ → Reading (List A)
items_at reading zero p = Ok ([], p)
items_at reading (suc n) p = reading p >>= λ first. items_at reading n first.1 >>= λ others. Ok (first.0 ∷ others.0, others.1)

-- a number of at most 2^20, and so many values
abbrev pub list_at : {A : Type 0} → Reading A → Reading (List A)
list_at reading p = limited_at (2 ^ 20) p >>= λ n. items_at reading n.0 n.1

-- i32, and no other type of values
unfoldable pub value_type_at : Piece → Result Piece ModFault
value_type_at p = do
  b ← byte_at p
  if b.0 == 0x7F then Ok b.1 else (if nat_le 0x7C b.0 && nat_le b.0 0x7E then Err (Unsupported (place p)) else Err (Malformed (place p)))

-- so many of it
unfoldable pub value_types_at : ℕ → Piece → Result Piece ModFault
value_types_at zero p = Ok p
value_types_at (suc n) p = value_type_at p >>= value_types_at n

-- the types of the parameters, 2^16 at most, and those of the results
unfoldable pub func_type_at : Reading FuncType
func_type_at p = do
  front ← expected_at 0x60 p
  params ← limited_at (2 ^ 16) front
  middle ← value_types_at params.0 params.1
  results ← u32_at middle
  rest ← value_types_at results.0 results.1
  Ok (record { params = params.0; results = results.0 }, rest)

-- 0 stands for a function; 1, 2 and 3 stand for a table, a memory and a global
unfoldable pub import_sort_at : Piece → Result Piece ModFault
import_sort_at p = do
  b ← byte_at p
  if b.0 == 0 then Ok b.1 else (if nat_le b.0 3 then Err (Unsupported (place p)) else Err (Malformed (place p)))

-- a module, a name, and a function's type
unfoldable pub import_at : Reading Foreign
import_at p = do
  origin ← name_at p
  name ← name_at origin.1
  front ← import_sort_at name.1
  kind ← u32_at front
  Ok (record { origin = origin.0; name = name.0; kind = kind.0 }, kind.1)

-- a flag of 0 or 1
unfoldable pub flag_at : Reading Bool
flag_at p = do
  b ← byte_at p
  if nat_le b.0 1 then Ok (b.0 == 1, b.1) else Err (Malformed (place p))

-- a largest size, where the flag says that there is one
unfoldable pub largest_at : Bool → Reading (Option ℕ)
largest_at flag p = if flag then (u32_at p >>= λ n. Ok (Some n.0, n.1)) else Ok (None, p)

-- a least size of at most 1024 pages, and a largest size or none
unfoldable pub limits_at : Reading Limits
limits_at p = do
  flag ← flag_at p
  least ← limited_at 1024 flag.1
  largest ← largest_at flag.0 least.1
  Ok (record { min = least.0; max = largest.0 }, largest.1)

-- one memory or none
unfoldable pub memories_at : Reading (Option Limits)
memories_at p = do
  n ← u32_at p
  if n.0 == 0 then Ok (None, n.1) else (if n.0 == 1 then (limits_at n.1 >>= λ m. Ok (Some m.0, m.1)) else Err (Unsupported (place p)))

-- this instruction, and no other
unfoldable pub only_at : ℕ → Piece → Result Piece ModFault
only_at opcode p = do
  b ← byte_at p
  if b.0 == opcode then Ok b.1 else (if is_instruction b.0 then Err (Unsupported (place p)) else Err (Malformed (place p)))

-- an initial expression: i32.const and end
unfoldable pub initial_at : Reading ℤ
initial_at p = do
  front ← only_at 0x41 p
  z ← i32_at front
  rest ← only_at 0x0B z.1
  Ok (z.0, rest)

-- a type, whether it may be written, and an initial value
unfoldable pub global_at : Reading GlobalVar
global_at p = do
  front ← value_type_at p
  flag ← flag_at front
  z ← initial_at flag.1
  Ok (record { mutable = flag.0; first = z.0 }, z.1)

-- 0 stands for a function, 1 for a table, 2 for a memory, 3 for a global
unfoldable pub export_sort_at : Reading ℕ
export_sort_at p = do
  b ← byte_at p
  if b.0 == 0 || b.0 == 2 || b.0 == 3 then Ok b else (if b.0 == 1 then Err (Unsupported (place p)) else Err (Malformed (place p)))

-- a name, and what it shows
unfoldable pub export_at : Reading Shown
export_at p = do
  name ← name_at p
  sort ← export_sort_at name.1
  index ← u32_at sort.1
  Ok (record { name = name.0; sort = sort.0; index = index.0 }, index.1)

-- the memory with index 0
unfoldable pub memory_index_at : Piece → Result Piece ModFault
memory_index_at p = do
  n ← u32_at p
  if n.0 == 0 then Ok n.1 else Err (Unsupported (place p))

-- a memory, an address and bytes
unfoldable pub segment_at : Reading Stretch
segment_at p = do
  front ← memory_index_at p
  offset ← initial_at front
  bytes ← bytes_at offset.1
  Ok (record { offset = offset.0; bytes = bytes.0 }, bytes.1)
