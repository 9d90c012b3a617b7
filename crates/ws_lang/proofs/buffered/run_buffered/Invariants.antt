use Rattle.std.proofs.Common.{◌-◌, ◌≤◌, ℕ, List, length}
use Rattle.mach_core.specs.Held.{StepsHeld}
use Rattle.ws_lang.specs.Step.{ws_rule}
use Rattle.ws_lang.specs.Stack.{values_of}
use Rattle.ws_lang.specs.Quiet.{running}
use Rattle.ws_lang.proofs.buffered.run_buffered.Given as goal

abbrev pub invariant-loop-made : goal.invariant-loop-made
invariant-loop-made l = record {
  few : l.made ≤ l.most;
  fits : l.depth ≤ length l.slots;
  held : (returns : List ℕ) → StepsHeld (ws_rule l.program) (running returns l.fn.place (values_of l.fn.slots l.fn.len) l.fn.heap) (record { held = l.fn.feed; put = l.fn.put }) l.made (running returns l.at (values_of l.slots l.depth) l.heap) (record { held = l.feed; put = l.put });
}

abbrev pub decreases-loop-made : goal.decreases-loop-made
decreases-loop-made l = l.most - l.made
