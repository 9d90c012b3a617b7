use Rattle.std.proofs.Common.{[], ◌∷◌, refl, arith}
use Rattle.c_routines.specs.Right.{piece, pieces}
use Rattle.eir_core.specs.declared.ops.Reg.TheVariants.{A, C, SP}
use Rattle.eir_core.specs.declared.ops.Operand.TheVariants.{Reg as register}
use Rattle.eir_core.specs.declared.ops.Op.TheVariants.{Mov, Jump}
use Rattle.c_routines.specs.declared.item.Item.TheVariants.{Does}
use Rattle.c_routines.proofs.Codes.{piece_down, piece_end}
use Rattle.c_routines.proofs.shifts.put_pieces.Goals as goal

pub loop-j-preserved : goal.loop-j-preserved
unfolding pieces
loop-j-preserved c =
    piece_down (λ j. piece c.args.base j []) (pieces c.args.base) (λ j. refl) c.loop-j.j (omega arith) c.loop-j.items.items c.put_piece.new.items.items _ c.in_ok-put_piece.ensures c.loop-j.invariant

pub returns : goal.returns
unfolding pieces
returns c =
    piece_end c.put_result.result (pieces c.args.base) (Does (Mov A (register C)) ∷ Does (Jump (register SP)) ∷ []) refl c.loop-j.j (omega arith) c.loop-j.items.items c.put_result.new.items.items _ c.loop-j.invariant c.put_result.ensures
