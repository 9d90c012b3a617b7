use Rattle.std.proofs.Common.{refl}
use Rattle.c_code.specs.Code as code
use Rattle.c_jumps.proofs.loops.begin_turn.Goals as goal

pub returns : goal.returns
returns c = record { reserved = c.reserve.new.self; reserves = c.in_ok-test.ensures; pays = c.in_ok-add.ensures code.Pay (record { means = λ names p e. refl }) }
