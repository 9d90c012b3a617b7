use Rattle.std.proofs.Common.{sym, subst, arith}
use Rattle.mach_core.specs.Silent.{StepsSilently}
use Rattle.c_plain.specs.Machine.{Machine, At}
use Rattle.c_plain.specs.Program.{program_of}
use Rattle.c_plain.specs.Rule.{plain_rule}
use Rattle.c_parts.specs.Parts.{machine_of}
use Rattle.c_machine.specs.States.{config_at}
use Rattle.c_machine.proofs.Steps.{one_more}
use Rattle.c_machine.proofs.silent.run_quietly.Goals as goal

pub steps-preserved : goal.steps-preserved
steps-preserved c = record {
  few = omega arith;
  silent = one_more (program_of c.args.plain.now) (At (machine_of c.args.parts.now)) (machine_of c.steps.parts) (At (machine_of c.try_step.new.parts)) c.steps.count c.steps.invariant.silent c.in-Made.ensures;
}

pub returns-in-Stopped-clause-silent : goal.returns-in-Stopped-clause-silent
returns-in-Stopped-clause-silent c =
    one_more (program_of c.args.plain.now) (At (machine_of c.args.parts.now)) (machine_of c.steps.parts) (config_at c.in-Stopped.standing (machine_of c.try_step.new.parts)) c.steps.count c.steps.invariant.silent c.in-Stopped.ensures

pub returns-in-Left-clause-silent : goal.returns-in-Left-clause-silent
returns-in-Left-clause-silent c =
    subst (λ (m : Machine). StepsSilently (plain_rule c.args.plain.now) (At (machine_of c.args.parts.now)) c.steps.count (At m)) (sym c.in-Left.ensures) c.steps.invariant.silent
