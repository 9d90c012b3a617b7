use Rattle.std.proofs.Common.{◌≡◌, ◌++◌, drop}
use Rattle.wasm_code.specs.Emitted.{blocks_code}
use Rattle.wasm_code.proofs.body.put_blocks.Given as goal

abbrev pub invariant-loop-k : goal.invariant-loop-k
invariant-loop-k l = l.code.items ++ blocks_code (drop l.k l.p.blocks) ≡ l.initial.code.items ++ blocks_code l.p.blocks
