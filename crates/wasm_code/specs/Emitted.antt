-- The WebAssembly module for an EIR program: one function, which is a loop round a nest of blocks, one for each block of the program, with one table of branches that leads to them.
-- It serves the proofs alone: what an emission promises names none of it.
use Rattle.std.specs.Prelude.{ℕ, ◌+◌, ◌-◌, ◌^◌, false, List, [], ◌∷◌, ◌++◌, length, map, replicate, pos, Some, None}
use Rattle.std.specs.List.{flat_map, range_with_len}
use Rattle.word24.specs.declared.word.Word.{Word}
use Rattle.word24.specs.Word.{number_of}
use Rattle.eir_core.specs.declared.ops.Reg.{Reg}
use Rattle.eir_core.specs.declared.ops.Reg.TheVariants.{A, B, C, D, SP, BP}
use Rattle.eir_core.specs.declared.ops.Operand.{Operand}
use Rattle.eir_core.specs.declared.ops.Operand.TheVariants.{Reg as register, Imm}
use Rattle.eir_core.specs.declared.ops.Cond.{Cond}
use Rattle.eir_core.specs.declared.ops.Cond.TheVariants.{Eq, Ne, Lt, Gt, Le, Ge}
use Rattle.eir_core.specs.declared.ops.Op.{Op}
use Rattle.eir_core.specs.declared.ops.Op.TheVariants.{Mov, Add, Sub, Load, Store, Putc, Getc, Exit, Set, Jump, JumpIf}
use Rattle.eir_core.specs.Eir.{Eir}
use Rattle.wasm_bin.specs.declared.module.Export.{Export}
use Rattle.wasm_bin.specs.declared.module.FuncType.{FuncType}
use Rattle.wasm_bin.specs.declared.module.Import.{Import}
use Rattle.wasm_bin.specs.declared.module.Instr.{Instr}
use Rattle.wasm_bin.specs.declared.module.Instr.TheVariants as instr
use Rattle.wasm_bin.specs.declared.module.MemArg.{MemArg}
use Rattle.wasm_bin.specs.declared.module.Module.{Module}
use Rattle.wasm_bin.specs.declared.module.Segment.{Segment}
use Rattle.wasm_rule.specs.Memory.{bytes_of}
use Rattle.wasm_rule.specs.Start.{env_name, main_name}
use Rattle.wasm_rule.specs.Step.{getchar_name, putchar_name}

-- the local of a register's word
abbrev pub register_local : Reg → ℕ
register_local A = 0
register_local B = 1
register_local C = 2
register_local D = 3
register_local SP = 4
register_local BP = 5

-- the local of the number of the block that a jump goes to
abbrev pub goal_local : ℕ
goal_local = 6

-- pushes the word of an operand
abbrev pub value_code : Operand → List Instr
value_code (register r) = instr.LocalGet (register_local r) ∷ []
value_code (Imm w) = instr.Const (pos (number_of w)) ∷ []

-- turns the number on top into a word, and puts it into a register
abbrev pub wrapped_code : Reg → List Instr
wrapped_code r = instr.Const (pos (2 ^ 24 - 1)) ∷ instr.And ∷ instr.LocalSet (register_local r) ∷ []

-- pushes the place in memory of the word at an address: each word has four bytes
abbrev pub place_code : Operand → List Instr
place_code v = value_code v ++ instr.Const (pos 2) ∷ instr.Shl ∷ []

-- an access to the four bytes of a word
abbrev pub whole_word : MemArg
whole_word = record { align = 2; offset = 0 }

-- the comparison of the two values on top, without sign
abbrev pub test_code : Cond → Instr
test_code Eq = instr.Eq
test_code Ne = instr.Ne
test_code Lt = instr.LtU
test_code Gt = instr.GtU
test_code Le = instr.LeU
test_code Ge = instr.GeU

-- pushes 1 where the comparison of a register with a value holds, else 0
abbrev pub flag_code : Cond → Reg → Operand → List Instr
flag_code test r v = instr.LocalGet (register_local r) ∷ (value_code v ++ test_code test ∷ [])

-- sets the number of the block to go to
abbrev pub goal_code : Operand → List Instr
goal_code target = value_code target ++ instr.LocalSet goal_local ∷ []

-- the code of an operation, where the loop lies so many labels out
abbrev pub op_code : ℕ → Op → List Instr
op_code out (Mov r v) = value_code v ++ instr.LocalSet (register_local r) ∷ []
op_code out (Add r v) = instr.LocalGet (register_local r) ∷ (value_code v ++ instr.Add ∷ wrapped_code r)
op_code out (Sub r v) = instr.LocalGet (register_local r) ∷ (value_code v ++ instr.Sub ∷ wrapped_code r)
op_code out (Load r v) = place_code v ++ instr.Load whole_word ∷ instr.LocalSet (register_local r) ∷ []
op_code out (Store r v) = place_code v ++ instr.LocalGet (register_local r) ∷ instr.Store whole_word ∷ []
op_code out (Putc v) = value_code v ++ instr.Call 1 ∷ []
op_code out (Getc r) = instr.Call 0 ∷ instr.LocalSet (register_local r) ∷ []
op_code out Exit = instr.Return ∷ []
op_code out (Set test r v) = flag_code test r v ++ instr.LocalSet (register_local r) ∷ []
op_code out (Jump target) = goal_code target ++ instr.Br out ∷ []
op_code out (JumpIf test target r v) = goal_code target ++ (flag_code test r v ++ instr.BrIf out ∷ [])

-- the code of operations, one after the other
abbrev pub ops_code : ℕ → List Op → List Instr
ops_code out [] = []
ops_code out (op ∷ ops) = op_code out op ++ ops_code out ops

-- the code of blocks, one after the other, and the end of the function. Behind each block ends the one that leads to the next, and behind the last ends the loop.
abbrev pub blocks_code : List (List Op) → List Instr
blocks_code [] = instr.End ∷ []
blocks_code (ops ∷ blocks) = ops_code (length blocks) ops ++ instr.End ∷ blocks_code blocks

-- goes to the block whose number was set, of so many: a branch to label k leads to block k, and one past the loop ends the run
abbrev pub choice_code : ℕ → List Instr
choice_code n = instr.LocalGet goal_local ∷ instr.BrTable (range_with_len 0 n) (n + 1) ∷ instr.End ∷ []

-- the loop: as many blocks within one another as the program has, the choice of one within them all, and then the code of each
abbrev pub turn_code : List (List Op) → List Instr
turn_code blocks = instr.Loop false ∷ (replicate (length blocks) (instr.Block false) ++ (choice_code (length blocks) ++ blocks_code blocks))

-- sets the number of the block that comes first, and enters the loop
abbrev pub main_code : Eir → List Instr
main_code p = instr.Const (pos p.start) ∷ instr.LocalSet goal_local ∷ turn_code p.blocks

-- the data words from address 0 on, each as four bytes, the lowest first
abbrev pub segments_for : List Word → List Segment
segments_for [] = []
segments_for words = record { offset = pos 0; bytes = flat_map (bytes_of 4) (map number_of words) } ∷ []

-- the types of `main`, of `getchar` and of `putchar`
abbrev pub types_for : List FuncType
types_for = record { params = 0; results = 0 } ∷ record { params = 0; results = 1 } ∷ record { params = 1; results = 0 } ∷ []

-- a function of the host, of this name and type
abbrev pub host_import : List ℕ → ℕ → Import
host_import name kind = record { «module» = env_name; name = name; kind = kind }

-- `main`, behind the two functions of the host
abbrev pub main_export : Export
main_export = record { name = main_name; sort = 0; index = 2 }

-- the module for a program: `main` runs its code on seven locals and a memory of 2^24 words
abbrev pub module_for : Eir → Module
module_for p = record {
  types = types_for;
  imports = host_import getchar_name 1 ∷ host_import putchar_name 2 ∷ [];
  funcs = 0 ∷ [];
  memory = Some (record { min = 1024; max = Some 1024 });
  globals = [];
  exports = main_export ∷ [];
  start = None;
  bodies = record { locals = 7; code = main_code p } ∷ [];
  segments = segments_for p.words;
}
