use Rattle.std.proofs.Common.{◌-◌, ◌≤◌}
use Rattle.mach_core.specs.Silent.{StepsSilently}
use Rattle.c_plain.specs.Machine.{At}
use Rattle.c_plain.specs.Rule.{plain_rule}
use Rattle.c_parts.specs.Parts.{machine_of}
use Rattle.c_machine.proofs.silent.run_quietly.Given as goal

abbrev pub invariant-steps : goal.invariant-steps
invariant-steps l = record { few : l.count ≤ l.most; silent : StepsSilently (plain_rule l.plain) (At (machine_of l.fn.parts)) l.count (At (machine_of l.parts)) }

abbrev pub decreases-steps : goal.decreases-steps
decreases-steps l = l.most - l.count
