-- For proofs only: what the fields of a state stand for.
use Rattle.sq_lang.specs.Step.{Config}
use Rattle.sq_lang.specs.declared.state.SqState.TheInside.{Inside}

abbrev pub config_of : Inside → Config
config_of s = record { address = s.address; cells = s.cells; fault = s.fault }
