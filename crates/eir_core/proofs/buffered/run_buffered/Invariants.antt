use Rattle.std.proofs.Common.{◌≡◌, ◌-◌, ◌<◌, ◌≤◌, ◌^◌, length}
use Rattle.mach_core.specs.Held.{StepsHeld}
use Rattle.eir_core.specs.Step.{eir_rule}
use Rattle.eir_core.specs.StateInside.{config_at}
use Rattle.eir_core.specs.Registers.{regs_of}
use Rattle.eir_core.specs.Acts.{ops_at, placed}
use Rattle.eir_core.proofs.buffered.run_buffered.Given as goal

abbrev pub invariant-steps : goal.invariant-steps
invariant-steps l = record {
  few : l.made ≤ l.most;
  at : l.ops ≡ ops_at l.program l.block;
  inside : l.index < length l.ops;
  short : length l.ops ≤ 2 ^ 21;
  held : StepsHeld (eir_rule l.program) (config_at l.fn.position l.fn.registers l.fn.memory) (record { held = l.fn.feed; put = l.fn.put }) l.made (placed l.block l.index (regs_of l.registers) l.memory) (record { held = l.feed; put = l.put });
}

abbrev pub decreases-steps : goal.decreases-steps
decreases-steps l = l.most - l.made
