-- What a machine executes, and what it is at.
use Rattle.std.specs.Prelude.{ℕ}
use Rattle.mach_core.specs.Rule.{Rule}
use Rattle.c_machine.specs.declared.machine.CMachine.{CMachine}
use Rattle.c_machine.specs.declared.machine.Funded.{Funded}
use Rattle.c_plain.specs.Machine.{Config}
use Rattle.c_plain.specs.Rule.{plain_rule, plain_start}

-- the fuel makes no difference to how a program goes on, only to where it starts
abbrev pub rule_for : Funded → Rule Config
rule_for f = plain_rule f.program.now

abbrev pub start_for : Funded → Config
start_for f = plain_start f.program.now f.fuel

-- the program that it executes, with its fuel
abbrev pub code_of : CMachine → Funded
code_of m = m.funded

-- the configuration that it is in
abbrev pub state_of : CMachine → Config
state_of m = m.state
