use Rattle.c_syntax.specs.View.{unit_of}
use Rattle.c_lowered.specs.Whole.{lowered}
use Rattle.c_lower.proofs.WholeLemmas.{ok_sized}
use Rattle.c_lower.proofs.whole.lower.Goals as goal

pub returns-in-Ok-clause-program : goal.returns-in-Ok-clause-program
returns-in-Ok-clause-program c =
    let p = lowered (unit_of c.args.unit.now) in
    c.fitting.ensures.program p (ok_sized c.args.room p c.in-Ok.made c.within.result c.in-Ok.is c.within.ensures)

pub returns-in-Ok-clause-small : goal.returns-in-Ok-clause-small
returns-in-Ok-clause-small c =
    let p = lowered (unit_of c.args.unit.now) in
    c.fitting.ensures.small p (ok_sized c.args.room p c.in-Ok.made c.within.result c.in-Ok.is c.within.ensures)

pub returns-in-Ok-clause-too_large : goal.returns-in-Ok-clause-too_large
returns-in-Ok-clause-too_large c =
    let p = lowered (unit_of c.args.unit.now) in
    c.fitting.ensures.too_large p (ok_sized c.args.room p c.in-Ok.made c.within.result c.in-Ok.is c.within.ensures)
