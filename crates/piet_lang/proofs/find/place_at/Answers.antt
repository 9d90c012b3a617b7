use Rattle.std.proofs.Common.{arith}
use Rattle.std.proofs.Math.Nat.{div-le_self, mul_comm}
use Rattle.piet_lang.proofs.find.place_at.Goals as goal

pub overflow_cast-result : goal.overflow_cast-result
overflow_cast-result c = omega (arith, div-le_self c.args.index c.height-height.result, c.requires.within, c.requires.few, mul_comm c.args.image.now.height c.args.image.now.width)
