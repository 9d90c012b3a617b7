use Rattle.c_prep.proofs.Naming.{one_dropped}
use Rattle.c_prep.proofs.table.Table.remove.Goals as goal

pub returns-clause-macros : goal.returns-clause-macros
returns-clause-macros c = one_dropped _ _ c.args.name.now c.remove.ensures.updates.0
