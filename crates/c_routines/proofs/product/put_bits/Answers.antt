use Rattle.std.proofs.Common.{[], ◌∷◌, refl, ap, arith}
use Rattle.eir_core.specs.declared.ops.Reg.TheVariants.{C, A, SP}
use Rattle.eir_core.specs.declared.ops.Operand.TheVariants.{Reg as register}
use Rattle.eir_core.specs.declared.ops.Op.TheVariants.{Add, Mov, Jump}
use Rattle.c_routines.specs.declared.item.Item.TheVariants.{Does}
use Rattle.c_routines.specs.Product.{turn, bits}
use Rattle.c_routines.proofs.Codes.{turn_on, piece_down, piece_end}
use Rattle.c_routines.proofs.product.put_bits.Goals as goal

pub loop-j-preserved : goal.loop-j-preserved
unfolding bits
loop-j-preserved c =
    piece_down (λ j. Does (Add C (register C)) ∷ turn c.args.base j []) (bits c.args.base) (λ j. ap (λ z. Does (Add C (register C)) ∷ z) (turn_on c.args.base j (bits c.args.base j))) c.loop-j.j (omega arith) c.loop-j.items.items c.put_bit.new.items.items _ c.in_ok-put_bit.ensures c.loop-j.invariant

pub returns : goal.returns
unfolding bits
returns c =
    piece_end c.put_result.result (bits c.args.base) (Does (Mov A (register C)) ∷ Does (Jump (register SP)) ∷ []) refl c.loop-j.j (omega arith) c.loop-j.items.items c.put_result.new.items.items _ c.loop-j.invariant c.put_result.ensures
