-- For proofs only: what a machine executes, and what it is at.
use Rattle.std.specs.Prelude.{List}
use Rattle.ws_lang.specs.declared.machine.WsMachine.{WsMachine}
use Rattle.ws_lang.specs.Instruction.{Instruction}
use Rattle.ws_lang.specs.Step.{Config}

-- the program that it executes
abbrev pub code_of : WsMachine → List Instruction
code_of m = m.program

-- the configuration that it is in
abbrev pub state_of : WsMachine → Config
state_of m = m.state
