use Rattle.std.proofs.Common.{arith}
use Rattle.std.proofs.lemmas.Nat.{pow_below}
use Rattle.c_routines.proofs.pieces.power.Goals as goal

pub pow-requires : goal.pow-requires
pow-requires c = pow_below c.args.k 64 (omega arith)
