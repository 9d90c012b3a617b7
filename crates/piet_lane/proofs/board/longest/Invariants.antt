use Rattle.std.proofs.Common.{◌≡◌, ℕ, ◌<◌, ◌≤◌, List, length, map, Some, slice_get}
use Rattle.piet_lane.specs.declared.command.Command.{Command}
use Rattle.piet_lane.specs.Drawn.{Reached}
use Rattle.piet_lane.proofs.board.longest.Given as goal

abbrev pub invariant-loop-i : goal.invariant-loop-i
invariant-loop-i l = record {
  few : l.reach ≤ 512;
  reached : (k : ℕ) (lane : List Command) → k < l.i → slice_get (map (λ v. v.items) l.lanes) k ≡ Some lane → length lane ≤ l.reach;
  least : (n : ℕ) → Reached (map (λ v. v.items) l.lanes) n → l.reach ≤ n;
}
