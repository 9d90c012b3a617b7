-- What stands before the code.
use Rattle.std.specs.Prelude.{map}
use Rattle.wasm_bin.specs.declared.read.Front.{Front}
use Rattle.wasm_bin.specs.Parts.{foreign, shown}
use Rattle.wasm_bin.specs.Section.{Opening}

abbrev pub view_front : Front → Opening
view_front f = record { types = f.types.items; imports = map foreign f.imports.items; funcs = f.funcs.items; memory = f.memory; globals = f.globals.items; exports = map shown f.exports.items; start = f.start }
