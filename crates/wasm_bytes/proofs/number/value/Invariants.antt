use Rattle.std.proofs.Common.{◌≡◌, ◌^◌, ◌<◌, take}
use Rattle.wasm_bytes.specs.Number.{unsigned_value}
use Rattle.wasm_bytes.proofs.number.value.Given as goal

abbrev pub invariant-loop-byte : goal.invariant-loop-byte
invariant-loop-byte l = record { made : l.value ≡ unsigned_value (take l.byte-index l.bytes); all : l.span ≡ 128 ^ l.byte-index; below : l.value < l.span }
