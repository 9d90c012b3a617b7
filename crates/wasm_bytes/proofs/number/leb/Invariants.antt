use Rattle.std.proofs.Common.{◌≡◌, ◌-◌}
use Rattle.arrayvec.specs.ArrayVec.{array_vec_len}
use Rattle.wasm_bytes.specs.Piece.{piece}
use Rattle.wasm_bytes.specs.Number.{leb_at}
use Rattle.wasm_bytes.proofs.Steps.{with_front}
use Rattle.wasm_bytes.proofs.number.leb.Given as goal

abbrev pub invariant-loop : goal.invariant-loop
invariant-loop l = record { read : with_front l.bytes.items (leb_at (4 - l.counter) (piece l.rest)) ≡ leb_at 4 (piece l.c); count : array_vec_len l.bytes ≡ l.counter }
