use Rattle.std.proofs.Common.{◌≡◌, ◌++◌, drop, map}
use Rattle.std.specs.List.{flat_map}
use Rattle.word24.specs.Word.{number_of}
use Rattle.wasm_rule.specs.Memory.{bytes_of}
use Rattle.wasm_code.proofs.data.bytes_for.Given as goal

abbrev pub invariant-loop-word : goal.invariant-loop-word
invariant-loop-word l = l.bytes.items ++ flat_map (bytes_of 4) (map number_of (drop l.word-index l.words)) ≡ flat_map (bytes_of 4) (map number_of l.words)
