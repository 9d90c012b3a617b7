use Rattle.c_prep.proofs.Naming.{one_kept}
use Rattle.c_prep.proofs.table.Table.keep.Goals as goal

pub returns-clause-macros : goal.returns-clause-macros
returns-clause-macros c = one_kept _ _ c.args.name.now c.args.tokens c.in_ok-insert.ensures.updates.0
