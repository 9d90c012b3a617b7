use Rattle.std.proofs.Common.{[], ◌∷◌, refl, arith}
use Rattle.eir_core.specs.declared.ops.Reg.TheVariants.{A, SP}
use Rattle.eir_core.specs.declared.ops.Operand.TheVariants.{Reg as register}
use Rattle.eir_core.specs.declared.ops.Op.TheVariants.{Add, Jump}
use Rattle.c_routines.specs.declared.item.Item.TheVariants.{Does, Label}
use Rattle.c_routines.specs.Left.{left_over, doublings}
use Rattle.c_routines.proofs.Codes.{piece_down, piece_end}
use Rattle.c_routines.proofs.shifts.put_doublings.Goals as goal

pub loop-j-preserved : goal.loop-j-preserved
unfolding doublings
loop-j-preserved c =
    piece_down (λ j. Does (Add A (register A)) ∷ Label (left_over c.args.base j) ∷ []) (doublings c.args.base) (λ j. refl) c.loop-j.j (omega arith) c.loop-j.items.items c.put_doubling.new.items.items _ c.in_ok-put_doubling.ensures c.loop-j.invariant

pub returns : goal.returns
unfolding doublings
returns c =
    piece_end c.put_back.result (doublings c.args.base) (Does (Jump (register SP)) ∷ []) refl c.loop-j.j (omega arith) c.loop-j.items.items c.put_back.new.items.items _ c.loop-j.invariant c.put_back.ensures
