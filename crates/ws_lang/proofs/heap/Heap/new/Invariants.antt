use Rattle.std.proofs.Common.{◌≡◌, ℕ, length, []}
use Rattle.ws_lang.specs.Pages.{page_of}
use Rattle.ws_lang.proofs.heap.Heap.new.Given as goal

abbrev pub invariant-loop-k : goal.invariant-loop-k
invariant-loop-k l = record { count : length l.pages.items ≡ l._k; none : (k : ℕ) → page_of l.pages.items k ≡ [] }
