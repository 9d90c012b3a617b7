-- The opcodes of the instructions, and what stands behind each.
use Rattle.std.specs.Prelude.{ℕ, Bool, ◌&&◌, ◌||◌, ◌==◌, nat_le, List, ℤ}
use Rattle.wasm_bin.specs.declared.module.MemArg.{MemArg}
use Rattle.wasm_bin.specs.declared.module.Instr.{Instr}
use Rattle.wasm_bin.specs.declared.module.Instr.TheVariants.{Unreachable, Nop, Block, Loop, If, Else, End, Br, BrIf, BrTable, Return, Call, Drop, Select, LocalGet, LocalSet, LocalTee, GlobalGet, GlobalSet, Load, Load8S, Load8U, Load16S, Load16U, Store, Store8, Store16, MemorySize, MemoryGrow, Const, Eqz, Eq, Ne, LtS, LtU, GtS, GtU, LeS, LeU, GeS, GeU, Clz, Ctz, Popcnt, Add, Sub, Mul, DivS, DivU, RemS, RemU, And, Or, Xor, Shl, ShrS, ShrU, Rotl, Rotr}

-- what stands behind an opcode
pub data Operands : Type 0 where
  Plain : Operands
  Typed : Bool → Operands
  Index : ℕ → Operands
  Table : List ℕ → ℕ → Operands
  Access : MemArg → Operands
  Reserved : Operands
  Number : ℤ → Operands

-- an instruction as an opcode and its operands
abbrev pub Coded : Type 0
Coded = ℕ × Operands

-- the opcode and the operands of each instruction, by the standard's table
abbrev pub coded : Instr → Coded
coded Unreachable = (0x00, Plain)
coded Nop = (0x01, Plain)
coded (Block gives) = (0x02, Typed gives)
coded (Loop gives) = (0x03, Typed gives)
coded (If gives) = (0x04, Typed gives)
coded Else = (0x05, Plain)
coded End = (0x0B, Plain)
coded (Br label) = (0x0C, Index label)
coded (BrIf label) = (0x0D, Index label)
coded (BrTable labels label) = (0x0E, Table labels label)
coded Return = (0x0F, Plain)
coded (Call func) = (0x10, Index func)
coded Drop = (0x1A, Plain)
coded Select = (0x1B, Plain)
coded (LocalGet local) = (0x20, Index local)
coded (LocalSet local) = (0x21, Index local)
coded (LocalTee local) = (0x22, Index local)
coded (GlobalGet global) = (0x23, Index global)
coded (GlobalSet global) = (0x24, Index global)
coded (Load m) = (0x28, Access m)
coded (Load8S m) = (0x2C, Access m)
coded (Load8U m) = (0x2D, Access m)
coded (Load16S m) = (0x2E, Access m)
coded (Load16U m) = (0x2F, Access m)
coded (Store m) = (0x36, Access m)
coded (Store8 m) = (0x3A, Access m)
coded (Store16 m) = (0x3B, Access m)
coded MemorySize = (0x3F, Reserved)
coded MemoryGrow = (0x40, Reserved)
coded (Const z) = (0x41, Number z)
coded Eqz = (0x45, Plain)
coded Eq = (0x46, Plain)
coded Ne = (0x47, Plain)
coded LtS = (0x48, Plain)
coded LtU = (0x49, Plain)
coded GtS = (0x4A, Plain)
coded GtU = (0x4B, Plain)
coded LeS = (0x4C, Plain)
coded LeU = (0x4D, Plain)
coded GeS = (0x4E, Plain)
coded GeU = (0x4F, Plain)
coded Clz = (0x67, Plain)
coded Ctz = (0x68, Plain)
coded Popcnt = (0x69, Plain)
coded Add = (0x6A, Plain)
coded Sub = (0x6B, Plain)
coded Mul = (0x6C, Plain)
coded DivS = (0x6D, Plain)
coded DivU = (0x6E, Plain)
coded RemS = (0x6F, Plain)
coded RemU = (0x70, Plain)
coded And = (0x71, Plain)
coded Or = (0x72, Plain)
coded Xor = (0x73, Plain)
coded Shl = (0x74, Plain)
coded ShrS = (0x75, Plain)
coded ShrU = (0x76, Plain)
coded Rotl = (0x77, Plain)
coded Rotr = (0x78, Plain)

-- block, loop and if
unfoldable pub is_block : ℕ → Bool
is_block op = nat_le 0x02 op && nat_le op 0x04

-- unreachable, nop, end, return, drop and select
unfoldable pub is_control : ℕ → Bool
is_control op = op == 0x00 || op == 0x01 || op == 0x0B || op == 0x0F || op == 0x1A || op == 0x1B

-- br, br_if and call; the five of variables
unfoldable pub is_indexed : ℕ → Bool
is_indexed op = op == 0x0C || op == 0x0D || op == 0x10 || (nat_le 0x20 op && nat_le op 0x24)

-- the loads and stores of 32-bit integers
unfoldable pub is_access : ℕ → Bool
is_access op = op == 0x28 || (nat_le 0x2C op && nat_le op 0x2F) || op == 0x36 || op == 0x3A || op == 0x3B

-- memory.size and memory.grow
unfoldable pub is_sizing : ℕ → Bool
is_sizing op = op == 0x3F || op == 0x40

-- the tests and comparisons of 32-bit integers
unfoldable pub is_comparison : ℕ → Bool
is_comparison op = nat_le 0x45 op && nat_le op 0x4F

-- the arithmetic of 32-bit integers
unfoldable pub is_arithmetic : ℕ → Bool
is_arithmetic op = nat_le 0x67 op && nat_le op 0x78

-- every opcode of WebAssembly 1.0, with those of other types and of tables; else stands in no other place than within an if
unfoldable pub is_instruction : ℕ → Bool
is_instruction op = nat_le op 0x04 || (nat_le 0x0B op && nat_le op 0x11) || op == 0x1A || op == 0x1B || (nat_le 0x20 op && nat_le op 0x24) || (nat_le 0x28 op && nat_le op 0xBF)
