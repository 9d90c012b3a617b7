use Rattle.std.proofs.Common.{◌≡◌, ◌+◌, ◌-◌}
use Rattle.wasm_rule.specs.Memory.{with_bytes, bytes_of}
use Rattle.wasm_parts.specs.Inside.{bytes_of_pages, Fits, Grows}
use Rattle.wasm_parts.proofs.memory.set_bytes.Given as goal

abbrev pub invariant-loop-k : goal.invariant-loop-k
invariant-loop-k l = record {
  bytes : with_bytes (bytes_of_pages l.pages.items) (l.fn.address + l.k) (bytes_of (l.fn.count - l.k) l.rest) ≡ with_bytes (bytes_of_pages l.fn.pages.items) l.fn.address (bytes_of l.fn.count l.fn.word);
  grows : Grows l.fn.pages.items l.pages.items;
  fits : Fits l.pages.items (l.fn.address + l.k) (bytes_of (l.fn.count - l.k) l.rest);
}
