-- Each value of a section has a byte.
use Rattle.std.proofs.Common.{ℕ, ◌<◌, List, ◌∷◌, ◌++◌, length, arith, length-append}
use Rattle.std.specs.List.{flat_map}
use Rattle.wasm_bin.specs.declared.module.FuncType.{FuncType}
use Rattle.wasm_bin.specs.declared.module.GlobalVar.{GlobalVar}
use Rattle.wasm_bin.specs.Parts.{Foreign, Shown, Function, Stretch}
use Rattle.wasm_write.specs.Leb.{number_bytes}
use Rattle.wasm_write.specs.Written.{counted, func_type_bytes, import_bytes, global_bytes, export_bytes, segment_bytes, locals_bytes, instruction_bytes, body_bytes}
use Rattle.wasm_write.proofs.Digits.{number_some}

counted_some : (row others : List ℕ) → 0 < length (counted row ++ others)
counted_some row others = omega (arith, number_some (length row), length-append (counted row) others, length-append (number_bytes (length row)) row)

pub func_type_some : (t : FuncType) → 0 < length (func_type_bytes t)
func_type_some t = omega arith

pub import_some : (i : Foreign) → 0 < length (import_bytes i)
import_some i = counted_some i.origin (counted i.name ++ 0x00 ∷ number_bytes i.kind)

pub global_some : (g : GlobalVar) → 0 < length (global_bytes g)
global_some g = omega arith

pub export_some : (e : Shown) → 0 < length (export_bytes e)
export_some e = counted_some e.name (e.sort ∷ number_bytes e.index)

pub segment_some : (s : Stretch) → 0 < length (segment_bytes s)
segment_some s = omega arith

pub body_some : (c : Function) → 0 < length (body_bytes c)
body_some c =
    let contents = locals_bytes c.locals ++ flat_map instruction_bytes c.instructions in
    omega (arith, number_some (length contents), length-append (number_bytes (length contents)) contents)
