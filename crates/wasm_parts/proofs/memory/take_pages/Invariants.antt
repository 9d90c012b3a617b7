use Rattle.std.proofs.Common.{◌≡◌}
use Rattle.wasm_parts.specs.Inside.{bytes_of_pages, Grows}
use Rattle.wasm_parts.proofs.Fits.{Serves, Asks}
use Rattle.wasm_parts.proofs.memory.take_pages.Given as goal

abbrev pub invariant-loop-k : goal.invariant-loop-k
invariant-loop-k l = record {
  bytes : bytes_of_pages l.pages.items ≡ bytes_of_pages l.fn.pages.items;
  grows : Grows l.fn.pages.items l.pages.items;
  serves : Serves l.pages.items l.fn.address l.fn.count l.k l.rest l.fn.word;
  asks : Asks (bytes_of_pages l.fn.pages.items) l.fn.address l.fn.count l.k l.rest l.fn.word;
}
