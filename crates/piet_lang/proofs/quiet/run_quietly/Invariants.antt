use Rattle.std.proofs.Common.{◌-◌, ◌≤◌}
use Rattle.mach_core.specs.Silent.{StepsSilently}
use Rattle.piet_lang.specs.Rule.{rule_of}
use Rattle.piet_lang.proofs.quiet.run_quietly.Given as goal

abbrev pub invariant-loop-made : goal.invariant-loop-made
invariant-loop-made l = record {
  few : l.made ≤ l.most;
  silent : StepsSilently (rule_of l.chart) l.fn.state l.made l.state;
}

abbrev pub decreases-loop-made : goal.decreases-loop-made
decreases-loop-made l = l.most - l.made
