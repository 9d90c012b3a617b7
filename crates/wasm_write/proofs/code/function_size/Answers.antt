use Rattle.std.proofs.Common.{◌≡◌, ◌+◌, ◌^◌, ◌<◌, ◌++◌, length, map, arith}
use Rattle.std.specs.List.{flat_map}
use Rattle.wasm_bin.specs.Opcode.{coded}
use Rattle.wasm_write.specs.Written.{locals_bytes, instruction_bytes}
use Rattle.wasm_write.proofs.Items.{rows_said, behind_fits, behind_size}
use Rattle.wasm_write.proofs.code.function_size.Goals as goal

pub items_size-requires : goal.items_size-requires
items_size-requires c =
    let body = c.args.body.now in
    let items = c.as_slice.result.now in
    behind_fits (locals_bytes body.locals) (flat_map (λ i. instruction_bytes (coded i)) items) (flat_map instruction_bytes (map coded body.code))
    (rows_said instruction_bytes coded items body.code c.as_slice.ensures) c.requires

pub overflow_add-result : goal.overflow_add-result
overflow_add-result c =
    let body = c.args.body.now in
    let items = c.as_slice.result.now in
    let locals = locals_bytes body.locals in
    let code = flat_map instruction_bytes (map coded body.code) in
    let fits : length (locals ++ code) < 2 ^ 32 = c.requires in
    let whole : c.locals_size.result + c.items_size.result ≡ length (locals ++ code) =
    behind_size locals (flat_map (λ i. instruction_bytes (coded i)) items) code c.locals_size.result c.items_size.result
    (rows_said instruction_bytes coded items body.code c.as_slice.ensures) c.locals_size.ensures c.items_size.ensures in
    omega arith

pub returns : goal.returns
returns c =
    let body = c.args.body.now in
    let items = c.as_slice.result.now in
    behind_size (locals_bytes body.locals) (flat_map (λ i. instruction_bytes (coded i)) items) (flat_map instruction_bytes (map coded body.code)) c.locals_size.result c.items_size.result
    (rows_said instruction_bytes coded items body.code c.as_slice.ensures) c.locals_size.ensures c.items_size.ensures
