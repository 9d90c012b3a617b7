use Rattle.std.proofs.Common.{◌≡◌, ◌+◌, ◌^◌, ◌<◌, drop}
use Rattle.wasm_rule.specs.Memory.{with_bytes}
use Rattle.wasm_parts.proofs.memory.Pages.write.Given as goal

abbrev pub invariant-loop-k : goal.invariant-loop-k
invariant-loop-k l = record {
  few : l.self.pages < 2 ^ 32;
  pages : l.self.pages ≡ l.fn.self.pages;
  bytes : with_bytes l.self.bytes (l.fn.address + l.k) (drop l.k l.bytes) ≡ with_bytes l.fn.self.bytes l.fn.address l.bytes;
}
