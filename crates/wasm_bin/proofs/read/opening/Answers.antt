use Rattle.std.proofs.Common.{◌≡◌, Ok, []}
use Rattle.std.specs.Prelude.{map}
use Rattle.std.proofs.lemmas.List.{map-id}
use Rattle.wasm_bytes.specs.Piece.{piece}
use Rattle.wasm_bin.specs.Parts.{foreign, shown}
use Rattle.wasm_bytes.specs.Number.{u32_at}
use Rattle.wasm_bin.specs.Entry.{list_at, func_type_at, import_at, global_at, export_at}
use Rattle.wasm_bin.specs.Section.{section_at}
use Rattle.wasm_bin.proofs.GrammarModules.{front_again}
use Rattle.wasm_bin.proofs.read.opening.Goals as goal

pub returns : goal.returns
returns c =
    let types : section_at 1 (list_at func_type_at) [] (piece c.in_ok-c.c) ≡ Ok (c.in_ok-types.types.items, piece c.in_ok-types.c) = rw (c.new.ensures.items, map-id c.in_ok-types.types.items) at c.in_ok-types.ensures in
    let imports : section_at 2 (list_at import_at) [] (piece c.in_ok-types.c) ≡ Ok (map foreign c.in_ok-imports.imports.items, piece c.in_ok-imports.c) = rw c.new-2.ensures.items at c.in_ok-imports.ensures in
    let funcs : section_at 3 (list_at u32_at) [] (piece c.in_ok-imports.c) ≡ Ok (c.in_ok-funcs.funcs.items, piece c.in_ok-funcs.c) = rw (c.new-3.ensures.items, map-id c.in_ok-funcs.funcs.items) at c.in_ok-funcs.ensures in
    let globals : section_at 6 (list_at global_at) [] (piece c.in_ok-memory.c) ≡ Ok (c.in_ok-globals.globals.items, piece c.in_ok-globals.c) = rw (c.new-4.ensures.items, map-id c.in_ok-globals.globals.items) at c.in_ok-globals.ensures in
    let exports : section_at 7 (list_at export_at) [] (piece c.in_ok-globals.c) ≡ Ok (map shown c.in_ok-exports.exports.items, piece c.in_ok-exports.c) = rw c.new-5.ensures.items at c.in_ok-exports.ensures in
    front_again (piece c.args.c) (piece c.in_ok-c.c) (piece c.in_ok-types.c) (piece c.in_ok-imports.c) (piece c.in_ok-funcs.c) (piece c.in_ok-c-2.c) (piece c.in_ok-memory.c) (piece c.in_ok-globals.c) (piece c.in_ok-exports.c) (piece c.in_ok-start.c)
    c.in_ok-types.types.items (map foreign c.in_ok-imports.imports.items) c.in_ok-funcs.funcs.items c.in_ok-memory.memory c.in_ok-globals.globals.items (map shown c.in_ok-exports.exports.items) c.in_ok-start.start
    c.in_ok-c.ensures types imports funcs c.in_ok-c-2.ensures c.in_ok-memory.ensures globals exports c.in_ok-start.ensures
