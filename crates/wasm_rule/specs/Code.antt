-- The parts of a module that a run goes by. What isn't there has no parameters, no results, no locals and no code.
use Rattle.std.specs.Prelude.{ℕ, zero, suc, List, [], ◌∷◌, min, slice_get, unwrap_or, Option, None, Some}
use Rattle.wasm_bin.specs.declared.module.Instr.{Instr}
use Rattle.wasm_bin.specs.declared.module.Instr.TheVariants.{Block, Loop, If, Else, End}
use Rattle.wasm_bin.specs.declared.module.Module.{Module}
use Rattle.wasm_bin.specs.declared.module.FuncType.{FuncType}
use Rattle.wasm_bin.specs.declared.module.Body.{Body}
use Rattle.wasm_bin.specs.declared.module.Limits.{Limits}
use Rattle.wasm_valid.specs.Rules.{own_type}

-- the code behind the `end` that closes the block so many levels out
abbrev pub past_end : ℕ → List Instr → List Instr
past_end depth [] = []
past_end depth (Block gives ∷ code) = past_end (suc depth) code
past_end depth (Loop gives ∷ code) = past_end (suc depth) code
past_end depth (If gives ∷ code) = past_end (suc depth) code
past_end zero (End ∷ code) = code
past_end (suc depth) (End ∷ code) = past_end depth code
past_end depth (instr ∷ code) = past_end depth code

-- the code behind the `else` of the block so many levels out, or from its `end` on where it has none
abbrev pub else_part : ℕ → List Instr → List Instr
else_part depth [] = []
else_part depth (Block gives ∷ code) = else_part (suc depth) code
else_part depth (Loop gives ∷ code) = else_part (suc depth) code
else_part depth (If gives ∷ code) = else_part (suc depth) code
else_part zero (Else ∷ code) = code
else_part (suc depth) (Else ∷ code) = else_part (suc depth) code
else_part zero (End ∷ code) = End ∷ code
else_part (suc depth) (End ∷ code) = else_part depth code
else_part depth (instr ∷ code) = else_part depth code

abbrev pub plain_type : FuncType
plain_type = record { params = 0; results = 0 }

-- the type of an own function, and the plain one where it has none
abbrev pub type_of : Module → ℕ → FuncType
type_of m own = unwrap_or (own_type m own) plain_type

abbrev pub code_in : Option Body → List Instr
code_in None = []
code_in (Some body) = body.code

abbrev pub locals_in : Option Body → ℕ
locals_in None = 0
locals_in (Some body) = body.locals

-- the code of an own function
abbrev pub own_code : Module → ℕ → List Instr
own_code m own = code_in (slice_get m.bodies own)

-- how many locals it has besides its parameters
abbrev pub own_locals : Module → ℕ → ℕ
own_locals m own = locals_in (slice_get m.bodies own)

-- the most pages that a memory may have
abbrev pub most_in : Option Limits → ℕ
most_in None = 0
most_in (Some limits) = min 1024 (unwrap_or limits.max 1024)

abbrev pub most_pages : Module → ℕ
most_pages m = most_in m.memory
