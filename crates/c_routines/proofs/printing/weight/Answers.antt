use Rattle.std.proofs.Common.{arith}
use Rattle.std.proofs.Math.Nat.{pow-le-pow_right}
use Rattle.c_routines.proofs.printing.weight.Goals as goal

pub pow-requires : goal.pow-requires
pow-requires c = omega (arith, pow-le-pow_right {n = 10} (omega arith) {i = c.args.k} {j = 8} c.requires)

pub pow-requires-in-Sixteen : goal.pow-requires-in-Sixteen
pow-requires-in-Sixteen c = omega (arith, pow-le-pow_right {n = 16} (omega arith) {i = c.args.k} {j = 8} c.requires)
