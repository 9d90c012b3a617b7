use Rattle.std.proofs.Common.{◌≡◌, ◌-◌, [], length}
use Rattle.std.specs.Prelude.{map}
use Rattle.wasm_bytes.specs.Piece.{piece}
use Rattle.wasm_bin.specs.Opcode.{coded}
use Rattle.wasm_bin.specs.Body.{code_at}
use Rattle.wasm_bytes.proofs.Steps.{with_front}
use Rattle.wasm_bin.proofs.func.code.Given as goal

abbrev pub invariant-loop : goal.invariant-loop
invariant-loop l = with_front (map coded l.code.items) (code_at (length l.c.left.now - l.counter) l.around.items (piece l.rest)) ≡ code_at (length l.c.left.now) [] (piece l.c)
