use Rattle.std.proofs.Common.{sym}
use Rattle.c_plain.specs.Program.{program_of}
use Rattle.c_parts.specs.Parts.{machine_of}
use Rattle.c_machine.proofs.Steps.{halted}
use Rattle.c_machine.proofs.state.CState.step.Goals as goal

pub returns-in-Some-clause-moved : goal.returns-in-Some-clause-moved
returns-in-Some-clause-moved c =
    halted (program_of c.args.plain.now) c.args.self.now (machine_of c.self.inside.parts) (machine_of c.execute.new.parts) c.args.fed c.in-Err.halt c.self.inside.standing c.in-Some.standing (sym c.self.view_is) c.requires c.in-Err.ensures.comes c.in-Err.ensures.took c.in-Some.ensures
