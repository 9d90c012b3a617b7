use Rattle.std.proofs.Common.{◌≡◌, ◌-◌, ◌≤◌}
use Rattle.wasm_bytes.specs.Piece.{piece}
use Rattle.wasm_bin.specs.Body.{runs_at}
use Rattle.wasm_bin.proofs.Runs.{with_sum}
use Rattle.wasm_bin.proofs.func.runs.Given as goal

abbrev pub invariant-loop : goal.invariant-loop
invariant-loop l = record { read : with_sum l.locals (runs_at (l.count - l.counter) (l.room - l.locals) (piece l.rest)) ≡ runs_at l.count l.room (piece l.c); within : l.locals ≤ l.room }
