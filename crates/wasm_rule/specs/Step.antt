-- What an instruction does. A value, a local or a global that is missing reads as 0, and one that is missing is not set.
use Rattle.std.specs.Prelude.{ℕ, ◌+◌, ◌-◌, ◌%◌, ◌^◌, cond, nat_eq, nat_lt, List, [], ◌∷◌, length, slice_index, slice_index_or, slice_get, Option, None, Some}
use Rattle.std.specs.Str.{bytes_eq}
use Rattle.wasm_bin.specs.declared.module.Instr.{Instr}
use Rattle.wasm_bin.specs.declared.module.Instr.TheVariants as instr
use Rattle.wasm_bin.specs.declared.module.Import.{Import}
use Rattle.wasm_bin.specs.declared.module.Module.{Module}
use Rattle.wasm_rule.specs.declared.act.Act.{Act}
use Rattle.wasm_rule.specs.declared.act.Act.TheVariants as act
use Rattle.wasm_rule.specs.Memory.{Memory, word_at, is_within}
use Rattle.wasm_rule.specs.Number.{word_of, extended, number_act}
use Rattle.wasm_rule.specs.Values.{top, second, third}

-- `getchar`
abbrev pub getchar_name : List ℕ
getchar_name = 103 ∷ 101 ∷ 116 ∷ 99 ∷ 104 ∷ 97 ∷ 114 ∷ []

-- `putchar`
abbrev pub putchar_name : List ℕ
putchar_name = 112 ∷ 117 ∷ 116 ∷ 99 ∷ 104 ∷ 97 ∷ 114 ∷ []

-- a read of so many bytes at an address: outside the memory it is fault 2
abbrev pub load_act : Memory → ℕ → ℕ → (ℕ → ℕ) → Act
load_act memory address count extend = cond (is_within memory address count) (act.Put 1 (extend (word_at memory.bytes address count))) (act.Stop 2)

-- an instruction on the memory, else one on numbers
abbrev pub memory_act : Memory → ℕ → ℕ → Instr → Act
memory_act memory x y (instr.Load arg) = load_act memory (y + arg.offset) 4 (λ word. word)
memory_act memory x y (instr.Load8S arg) = load_act memory (y + arg.offset) 1 (extended 8)
memory_act memory x y (instr.Load8U arg) = load_act memory (y + arg.offset) 1 (λ word. word)
memory_act memory x y (instr.Load16S arg) = load_act memory (y + arg.offset) 2 (extended 16)
memory_act memory x y (instr.Load16U arg) = load_act memory (y + arg.offset) 2 (λ word. word)
memory_act memory x y (instr.Store arg) = act.Store 4 (x + arg.offset) y
memory_act memory x y (instr.Store8 arg) = act.Store 1 (x + arg.offset) y
memory_act memory x y (instr.Store16 arg) = act.Store 2 (x + arg.offset) y
memory_act memory x y instr.MemorySize = act.Put 0 memory.pages
memory_act memory x y instr.MemoryGrow = act.Grow y
memory_act memory x y other = number_act other x y

-- an instruction on a constant, a local or a global, else one on the memory
abbrev pub variable_act : List ℕ → List ℕ → Memory → ℕ → ℕ → Instr → Act
variable_act locals globals memory x y (instr.Const z) = act.Put 0 (word_of z)
variable_act locals globals memory x y (instr.LocalGet k) = act.Put 0 (slice_index locals k)
variable_act locals globals memory x y (instr.LocalSet k) = act.SetLocal 1 k y
variable_act locals globals memory x y (instr.LocalTee k) = act.SetLocal 0 k y
variable_act locals globals memory x y (instr.GlobalGet k) = act.Put 0 (slice_index globals k)
variable_act locals globals memory x y (instr.GlobalSet k) = act.SetGlobal k y
variable_act locals globals memory x y other = memory_act memory x y other

-- a call of the host, which knows two functions
abbrev pub host_act : Import → ℕ → Act
host_act import y = cond (bytes_eq import.name getchar_name) act.Read (act.Write (y % 2 ^ 8))

-- a call: of an import, or else of an own function, which is fault 5 where there are 4096 calls
abbrev pub call_act : Option Import → ℕ → ℕ → ℕ → Act
call_act (Some import) own calls y = host_act import y
call_act None own calls y = cond (nat_lt calls 4096) (act.Call own) (act.Stop 5)

-- what an instruction may read
pub record View : Type 0 where
  -- how many calls there are
  pub calls : ℕ
  pub locals : List ℕ
  pub globals : List ℕ
  pub memory : Memory
  -- the top first
  pub values : List ℕ

-- what an instruction does
abbrev pub act_of : Module → View → Instr → Act
act_of m v instr.Unreachable = act.Stop 1
act_of m v instr.Nop = act.Take 0
act_of m v (instr.Block gives) = act.Block 0 gives
act_of m v (instr.Loop gives) = act.Loop
act_of m v (instr.If gives) = cond (nat_eq (top v.values) 0) (act.Otherwise gives) (act.Block 1 gives)
act_of m v instr.Else = act.Leave
act_of m v instr.End = act.End
act_of m v (instr.Br depth) = act.Branch 0 depth
act_of m v (instr.BrIf depth) = cond (nat_eq (top v.values) 0) (act.Take 1) (act.Branch 1 depth)
act_of m v (instr.BrTable depths last) = act.Branch 1 (slice_index_or depths (top v.values) last)
act_of m v instr.Return = act.Return
act_of m v (instr.Call k) = call_act (slice_get m.imports k) (k - length m.imports) v.calls (top v.values)
act_of m v instr.Drop = act.Take 1
act_of m v instr.Select = act.Put 3 (cond (nat_eq (top v.values) 0) (second v.values) (third v.values))
act_of m v other = variable_act v.locals v.globals v.memory (second v.values) (top v.values) other
