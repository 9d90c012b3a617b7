use Rattle.std.proofs.Common.{◌-◌, ◌≤◌, List, ℤ}
use Rattle.mach_core.specs.Held.{StepsHeld}
use Rattle.sq_lang.specs.Step.{sq_rule}
use Rattle.sq_lang.specs.Quiet.{placed}
use Rattle.sq_lang.proofs.buffered.run_buffered.Given as goal

abbrev pub invariant-steps : goal.invariant-steps
invariant-steps l = record {
  few : l.made ≤ l.most;
  held : (program : List ℤ) → StepsHeld (sq_rule program) (placed l.fn.address l.fn.cells) (record { held = l.fn.feed; put = l.fn.put }) l.made (placed l.at l.cells) (record { held = l.feed; put = l.put });
}

abbrev pub decreases-steps : goal.decreases-steps
decreases-steps l = l.most - l.made
