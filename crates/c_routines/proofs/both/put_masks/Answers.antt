use Rattle.std.proofs.Common.{[], ◌∷◌, refl, arith}
use Rattle.c_routines.specs.Both.{mask, masks}
use Rattle.eir_core.specs.declared.ops.Reg.TheVariants.{A, C, SP}
use Rattle.eir_core.specs.declared.ops.Operand.TheVariants.{Reg as register}
use Rattle.eir_core.specs.declared.ops.Op.TheVariants.{Mov, Jump}
use Rattle.c_routines.specs.declared.item.Item.TheVariants.{Does}
use Rattle.c_routines.proofs.Codes.{piece_down, piece_end}
use Rattle.c_routines.proofs.both.put_masks.Goals as goal

pub loop-j-preserved : goal.loop-j-preserved
unfolding masks
loop-j-preserved c =
    piece_down (λ j. mask c.args.base j []) (masks c.args.base) (λ j. refl) c.loop-j.j (omega arith) c.loop-j.items.items c.put_mask.new.items.items _ c.in_ok-put_mask.ensures c.loop-j.invariant

pub returns : goal.returns
unfolding masks
returns c =
    piece_end c.put_result.result (masks c.args.base) (Does (Mov A (register C)) ∷ Does (Jump (register SP)) ∷ []) refl c.loop-j.j (omega arith) c.loop-j.items.items c.put_result.new.items.items _ c.loop-j.invariant c.put_result.ensures
