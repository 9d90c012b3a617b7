use Rattle.std.proofs.Common.{◌≡◌, ◌-◌, length}
use Rattle.wasm_bytes.specs.Piece.{piece}
use Rattle.wasm_bin.specs.Section.{customs_at, past_customs}
use Rattle.wasm_bin.proofs.section.customs.Given as goal

abbrev pub invariant-loop : goal.invariant-loop
invariant-loop l = customs_at (length l.c.left.now - l.counter) (piece l.rest) ≡ past_customs (piece l.c)
