-- What the code of a function may name.
use Rattle.std.specs.Prelude.{ℕ, ◌≤◌, List, ◌++◌, map, Option, slice_get, IfSome}
use Rattle.std.specs.Option.{option_and_then}
use Rattle.wasm_bin.specs.declared.module.Module.{Module}
use Rattle.wasm_bin.specs.declared.module.FuncType.{FuncType}
use Rattle.wasm_bin.specs.declared.module.Limits.{Limits}
use Rattle.wasm_bin.specs.declared.module.GlobalVar.{GlobalVar}

-- the index of each function's type, the imported functions first
abbrev pub type_indices : Module → List ℕ
type_indices m = map (λ i. i.kind) m.imports ++ m.funcs

-- the type of the function of an index, where both are there
abbrev pub function_type : Module → ℕ → Option FuncType
function_type m index = option_and_then (slice_get m.types) (slice_get (type_indices m) index)

-- the functions, memory and globals of the module, how many locals there are, and how many values the function gives
pub record Context : Type 0 where
  pub functions : ℕ → Option FuncType
  pub memory : Option Limits
  pub globals : List GlobalVar
  pub locals : ℕ
  pub results : ℕ

-- the same of a module, for a function with so many locals and results
abbrev pub context_of : Module → ℕ → ℕ → Context
context_of m locals results = record { functions = function_type m; memory = m.memory; globals = m.globals; locals = locals; results = results }

-- no function gives more than one value
abbrev pub GivesFew : Context → Type 0
GivesFew c = (c.results ≤ 1) × ((index : ℕ) → IfSome (c.functions index) (λ t. t.results ≤ 1))
