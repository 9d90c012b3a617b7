use Rattle.std.proofs.Common.{◌≡◌, ◌+◌, length, drop}
use Rattle.std.specs.List.{flat_map}
use Rattle.wasm_write.proofs.encode.items_size.Given as goal

abbrev pub invariant-loop-item : goal.invariant-loop-item
invariant-loop-item g l = l.size + length (flat_map g.T.Encode.bytes (drop l.item-index l.items)) ≡ length (flat_map g.T.Encode.bytes l.items)
