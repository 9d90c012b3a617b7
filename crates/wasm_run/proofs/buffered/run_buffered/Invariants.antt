use Rattle.std.proofs.Common.{◌≡◌, ◌-◌, ◌≤◌}
use Rattle.wasm_run.specs.InCall.{RunsHeld}
use Rattle.wasm_run.proofs.buffered.run_buffered.Given as goal

abbrev pub invariant-steps : goal.invariant-steps
invariant-steps l = record {
  few : l.made ≤ l.most;
  function_kept : l.frame.body ≡ l.fn.frame.body;
  runs : RunsHeld l.linked l.calls l.fn.frame l.fn.globals l.fn.memory (record { held = l.fn.feed; put = l.fn.put }) l.made l.frame l.globals l.memory (record { held = l.feed; put = l.put });
}

abbrev pub decreases-steps : goal.decreases-steps
decreases-steps l = l.most - l.made
