-- How many bytes a module takes at most.
use Rattle.std.specs.Prelude.{ℕ, ◌+◌, ◌*◌, length, sum_by}
use Rattle.wasm_bin.specs.declared.module.FuncType.{FuncType}
use Rattle.wasm_bin.specs.Opcode.{Operands, Table, Coded}
use Rattle.wasm_bin.specs.Parts.{Foreign, Shown, Function, Stretch, Parts}

abbrev pub func_type_most : FuncType → ℕ
func_type_most t = 11 + t.params + t.results

abbrev pub import_most : Foreign → ℕ
import_most i = 16 + length i.origin + length i.name

abbrev pub export_most : Shown → ℕ
export_most e = 11 + length e.name

abbrev pub segment_most : Stretch → ℕ
segment_most s = 13 + length s.bytes

-- only a table of labels is longer than ten bytes
abbrev pub operands_most : Operands → ℕ
operands_most (Table labels label) = 10 + 5 * length labels
operands_most _ = 10

abbrev pub instruction_most : Coded → ℕ
instruction_most i = 1 + operands_most i.1

abbrev pub body_most : Function → ℕ
body_most c = 12 + sum_by instruction_most c.instructions

-- the most bytes of a module, by its parts
abbrev pub module_most : Parts → ℕ
module_most m =
    114 + sum_by func_type_most m.types + sum_by import_most m.imports + 5 * length m.funcs + 9 * length m.globals
    + sum_by export_most m.exports + sum_by body_most m.bodies + sum_by segment_most m.segments
