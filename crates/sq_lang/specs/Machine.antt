-- For proofs only: what a machine executes, and where it is.
use Rattle.std.specs.Prelude.{List, [], ℤ}
use Rattle.sq_lang.specs.declared.machine.SqMachine.{SqMachine}
use Rattle.sq_lang.specs.Step.{Config}

-- no program: all programs go by one rule, and differ only in the cells that they begin with
abbrev pub code_of : SqMachine → List ℤ
code_of m = []

-- the configuration that it is in
abbrev pub state_of : SqMachine → Config
state_of m = m.state
