use Rattle.std.proofs.Common.{◌≡◌, ◌++◌, replicate}
use Rattle.c_static.proofs.strings.padded.Given as goal

abbrev pub invariant-loop-index : goal.invariant-loop-index
invariant-loop-index l = l.bytes.items ≡ l.text ++ replicate l._index 0
