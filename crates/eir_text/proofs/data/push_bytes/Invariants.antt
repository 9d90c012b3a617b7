use Rattle.std.proofs.Common.{◌≡◌, ◌++◌, map, drop}
use Rattle.eir_text.specs.Spells.{wrapped}
use Rattle.eir_text.proofs.data.push_bytes.Given as goal

abbrev pub invariant-loop-b : goal.invariant-loop-b
invariant-loop-b l = l.words.items ++ map wrapped (drop l.b-index l.bytes) ≡ l.fn.words.items ++ map wrapped l.bytes
