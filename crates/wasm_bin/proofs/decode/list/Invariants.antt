use Rattle.std.proofs.Common.{◌≡◌, ◌-◌}
use Rattle.std.specs.Prelude.{map}
use Rattle.wasm_bytes.specs.Piece.{piece}
use Rattle.wasm_bin.specs.Entry.{items_at}
use Rattle.wasm_bytes.proofs.Steps.{with_front}
use Rattle.wasm_bin.proofs.decode.list.Given as goal

abbrev pub invariant-loop : goal.invariant-loop
invariant-loop g l = with_front (map g.T.Decode.seen l.list.items) (items_at g.T.Decode.reading (l.count - l.counter) (piece l.rest)) ≡ items_at g.T.Decode.reading l.count (piece l.initial.rest)
