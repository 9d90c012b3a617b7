use Rattle.std.proofs.Common.{◌≤◌, ◌<◌, ◌-◌, length}
use Rattle.mach_core.specs.Silent.{StepsSilently}
use Rattle.bf_lang.specs.Step.{bf_rule}
use Rattle.bf_lang.specs.StateInside.{config_at}
use Rattle.bf_lang.proofs.quiet.run_quietly.Given as goal

abbrev pub invariant-folds : goal.invariant-folds
invariant-folds l = record {
  head : l.head < length l.cells;
  place : l.place ≤ length l.plan;
  left : l.left ≤ l.most;
  silent : StepsSilently (bf_rule l.plan) (config_at l.fn.spot.place l.fn.spot.head l.fn.cells) (l.most - l.left) (config_at l.place l.head l.cells);
}

abbrev pub decreases-folds : goal.decreases-folds
decreases-folds l = l.left
