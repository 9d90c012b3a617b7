-- The parts of a module, without where they lie in memory.
use Rattle.std.specs.Prelude.{ℕ, List, map, Option, ℤ}
use Rattle.wasm_bin.specs.declared.module.FuncType.{FuncType}
use Rattle.wasm_bin.specs.declared.module.Import.{Import}
use Rattle.wasm_bin.specs.declared.module.Limits.{Limits}
use Rattle.wasm_bin.specs.declared.module.GlobalVar.{GlobalVar}
use Rattle.wasm_bin.specs.declared.module.Export.{Export}
use Rattle.wasm_bin.specs.declared.module.Body.{Body}
use Rattle.wasm_bin.specs.declared.module.Segment.{Segment}
use Rattle.wasm_bin.specs.declared.module.Module.{Module}
use Rattle.wasm_bin.specs.Opcode.{Coded, coded}

-- a function from the host: the name of its module, its own name and the index of its type
pub record Foreign : Type 0 where
  pub origin : List ℕ
  pub name : List ℕ
  pub kind : ℕ

-- a name, and what it stands for
pub record Shown : Type 0 where
  pub name : List ℕ
  pub sort : ℕ
  pub index : ℕ

-- the number of locals, and the instructions
pub record Function : Type 0 where
  pub locals : ℕ
  pub instructions : List Coded

-- where bytes stand in the memory at the start
pub record Stretch : Type 0 where
  pub offset : ℤ
  pub bytes : List ℕ

pub record Parts : Type 0 where
  pub types : List FuncType
  pub imports : List Foreign
  pub funcs : List ℕ
  pub memory : Option Limits
  pub globals : List GlobalVar
  pub exports : List Shown
  pub start : Option ℕ
  pub bodies : List Function
  pub segments : List Stretch

abbrev pub foreign : Import → Foreign
foreign i = record { origin = i.module; name = i.name; kind = i.kind }

abbrev pub shown : Export → Shown
shown e = record { name = e.name; sort = e.sort; index = e.index }

abbrev pub function_of : Body → Function
function_of b = record { locals = b.locals; instructions = map coded b.code }

abbrev pub stretch : Segment → Stretch
stretch s = record { offset = s.offset; bytes = s.bytes }

abbrev pub parts_of : Module → Parts
parts_of m = record {
  types = m.types;
  imports = map foreign m.imports;
  funcs = m.funcs;
  memory = m.memory;
  globals = m.globals;
  exports = map shown m.exports;
  start = m.start;
  bodies = map function_of m.bodies;
  segments = map stretch m.segments;
}
