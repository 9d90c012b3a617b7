use Rattle.std.proofs.Common.{◌≡◌, ℕ, ◌-◌, ◌≤◌, length}
use Rattle.wasm_parts.specs.Inside.{page_of}
use Rattle.wasm_parts.proofs.memory.lengthen.Given as goal

abbrev pub invariant-loop-alloc : goal.invariant-loop-alloc
invariant-loop-alloc l = record {
  longer : length l.fn.pages.items ≤ length l.pages.items;
  same : (k : ℕ) → page_of l.pages.items k ≡ page_of l.fn.pages.items k;
}

abbrev pub decreases-loop-alloc : goal.decreases-loop-alloc
decreases-loop-alloc l = l.count - length l.pages.items
