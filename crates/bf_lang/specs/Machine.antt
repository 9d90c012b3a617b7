-- What a machine executes, and what it is at.
use Rattle.std.specs.Prelude.{List}
use Rattle.bf_lang.specs.declared.command.Command.{Command}
use Rattle.bf_lang.specs.declared.machine.BfMachine.{BfMachine}
use Rattle.bf_lang.specs.Step.{Config}

-- the program that it executes
abbrev pub code_of : BfMachine → List Command
code_of m = m.plan

-- the configuration that it is in
abbrev pub state_of : BfMachine → Config
state_of m = m.state
