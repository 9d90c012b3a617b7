use Rattle.std.proofs.Common.{◌+◌, [], ◌∷◌}
use Rattle.eir_core.specs.declared.ops.Reg.TheVariants.{A, B}
use Rattle.eir_core.specs.declared.ops.Operand.TheVariants.{Reg as register}
use Rattle.eir_core.specs.declared.ops.Cond.TheVariants.{Gt}
use Rattle.eir_core.specs.declared.ops.Op.TheVariants.{Store}
use Rattle.c_routines.specs.declared.item.Item.TheVariants.{Does, Jump, JumpIf}
use Rattle.c_routines.specs.Items.{constant}
use Rattle.c_routines.specs.Divide.{tested, down, level, falls, rises}
use Rattle.c_routines.proofs.Codes.{three_put}
use Rattle.c_routines.proofs.quotient.put_highest.Goals as goal

pub returns : goal.returns
unfolding rises
returns c =
    three_put c.put_falls.result c.args.items.now.items
    (JumpIf Gt (down c.args.base c.args.k) B (register A) ∷ Does (Store B (constant (c.args.first + c.args.k))) ∷ Jump (tested c.args.base c.args.k) ∷ [])
    (level c.args.base c.args.k []) (falls c.args.base c.args.first c.args.k) c.put_kept.new.items.items c.put_level.new.items.items c.put_falls.new.items.items
    c.in_ok-put_kept.ensures c.in_ok-put_level.ensures c.put_falls.ensures
