use Rattle.std.proofs.Common.{◌≡◌, ℕ, ◌≤◌, length, Some}
use Rattle.std.specs.Prelude.{slice_get}
use Rattle.c_store.specs.declared.live.Live.{Live}
use Rattle.c_store.proofs.find.count_below.Given as goal

abbrev pub invariant-loop-count : goal.invariant-loop-count
invariant-loop-count l = record {
  within : l.count ≤ length l.objects;
  above : (k : ℕ) (x : Live) → l.count ≤ k → slice_get l.objects k ≡ Some x → l.number ≤ x.number;
}

abbrev pub decreases-loop-count : goal.decreases-loop-count
decreases-loop-count l = l.count
