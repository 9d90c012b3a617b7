use Rattle.std.proofs.Common.{◌≡◌, ◌-◌}
use Rattle.wasm_bytes.specs.Piece.{piece}
use Rattle.wasm_bin.specs.Entry.{value_types_at}
use Rattle.wasm_bin.proofs.entry.value_types.Given as goal

abbrev pub invariant-loop : goal.invariant-loop
invariant-loop l = value_types_at (l.count - l.counter) (piece l.rest) ≡ value_types_at l.count (piece l.c)
