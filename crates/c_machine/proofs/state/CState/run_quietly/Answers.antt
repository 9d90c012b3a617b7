use Rattle.std.proofs.Common.{sym, ap, ◌∙◌, subst}
use Rattle.mach_core.specs.declared.machine.Status.{Status}
use Rattle.mach_core.specs.Silent.{StepsSilently}
use Rattle.c_plain.specs.Machine.{Config}
use Rattle.c_plain.specs.Rule.{plain_rule}
use Rattle.c_parts.specs.Parts.{machine_of}
use Rattle.c_machine.specs.States.{config_at}
use Rattle.c_machine.proofs.state.CState.run_quietly.Goals as goal

pub returns-in-Going-clause-silent : goal.returns-in-Going-clause-silent
returns-in-Going-clause-silent c =
    let made = c.run_quietly-made in
    subst (λ (k : Config). StepsSilently (plain_rule c.args.plain.now) k made.result.count (config_at made.result.standing (machine_of made.new.parts)))
    (ap (λ (s : Status). config_at s (machine_of c.self.inside.parts)) (sym c.in-Going.is) ∙ c.self.view_is) made.ensures.silent
