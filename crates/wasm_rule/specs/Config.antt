-- What a module is at.
use Rattle.std.specs.Prelude.{ℕ, Bool, List}
use Rattle.mach_core.specs.declared.machine.Status.{Status}
use Rattle.wasm_bin.specs.declared.module.Instr.{Instr}
use Rattle.wasm_rule.specs.Memory.{Memory}

-- a block that has begun
pub record Label : Type 0 where
  -- a branch to it takes the top value along
  pub takes : Bool
  -- how many values lie beneath
  pub beneath : ℕ
  -- where a branch to it goes on
  pub next : List Instr

-- a call of a function of the module
pub record Call : Type 0 where
  -- its end gives the top value
  pub gives : Bool
  pub locals : List ℕ
  -- the top first
  pub values : List ℕ
  -- the innermost first
  pub labels : List Label
  -- the instructions that come next
  pub code : List Instr

pub record Config : Type 0 where
  pub globals : List ℕ
  pub memory : Memory
  -- the last call first
  pub calls : List Call
  -- the calls that are made after the last of these has ended
  pub later : List Call
  -- that the run goes on, or how it is over
  pub status : Status
