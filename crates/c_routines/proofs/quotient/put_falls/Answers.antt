use Rattle.std.proofs.Common.{◌+◌, [], ◌∷◌, refl, arith}
use Rattle.eir_core.specs.declared.ops.Reg.TheVariants.{B, SP}
use Rattle.eir_core.specs.declared.ops.Op.TheVariants.{Load, Jump}
use Rattle.c_routines.specs.declared.item.Item.TheVariants.{Does}
use Rattle.c_routines.specs.Items.{constant}
use Rattle.c_routines.specs.Divide.{level, falls}
use Rattle.eir_core.specs.declared.ops.Operand.TheVariants.{Reg as register}
use Rattle.c_routines.proofs.Codes.{piece_down, piece_end}
use Rattle.c_routines.proofs.quotient.put_falls.Goals as goal

pub loop-j-preserved : goal.loop-j-preserved
unfolding falls
loop-j-preserved c =
    piece_down (λ j. Does (Load B (constant (c.args.first + j))) ∷ level c.args.base j []) (falls c.args.base c.args.first) (λ j. refl) c.loop-j.j (omega arith) c.loop-j.items.items c.put_fall.new.items.items _ c.in_ok-put_fall.ensures c.loop-j.invariant

pub returns : goal.returns
unfolding falls
returns c =
    piece_end c.put_back.result (falls c.args.base c.args.first) (Does (Jump (register SP)) ∷ []) refl c.loop-j.j (omega arith) c.loop-j.items.items c.put_back.new.items.items _ c.loop-j.invariant c.put_back.ensures
