use Rattle.std.proofs.Common.{◌≡◌, ℕ, length, [], slice_get}
use Rattle.sq_lang.specs.Pages.{cells_in}
use Rattle.sq_lang.proofs.cells.Cells.new.Given as goal

abbrev pub invariant-loop-k : goal.invariant-loop-k
invariant-loop-k l = record { count : length l.front.items ≡ l._k; none : (k : ℕ) → cells_in (slice_get l.front.items k) ≡ [] }
